use Rattle.std.proofs.Common.{inl, inr, refl, rules, string_bytes}
use Rattle.std.proofs.lemmas.Result.{err_from_is_err_and}
use Rattle.hack_load.specs.CargoQuestions.{locate}
use Rattle.hack_load.proofs.AnswerLemmas.{members-long}
use Rattle.hack_load.proofs.AskLemmas.{locate-told}
use Rattle.hack_metadata.specs.MetadataView.{metadata_view}
use Rattle.hack_load.specs.FailedLoads.{IsMemberPath}
use Rattle.hack_files.proofs.FailedLemmas.{none_failed}
use Rattle.hack_load.proofs.FailedLemmas.{locate-none, reads-then}
use Rattle.hack_load.proofs.answers.Asker.load_behind.Goals as goal

pub returns-clause-asked : goal.returns-clause-asked
returns-clause-asked g c = λ called. (
  refl,
  search rules,
  record {
    cargo = search rules;
    folder = search rules;
    manifests = c.in-Ok.ensures.ok;
  },
)

pub returns-in-Err-clause-asked : goal.returns-in-Err-clause-asked
returns-in-Err-clause-asked g c = λ called.
    inl (refl, c.in-Err.ensures.err)

pub returns-in-Err-ask-clause-asked : goal.returns-in-Err-ask-clause-asked
returns-in-Err-ask-clause-asked g c = λ called.
    inr (
      c.in-Ok.manifests.items,
      c.in-Ok.ensures.ok,
      locate-told g.C.Caller.tells (locate c.args.self.now.args.now c.args.self.now.env.now) (string_bytes c.args.self.now.env.now.current_dir) (g.C.Caller.calls c.args.caller.now) (g.C.Caller.calls c.ask.new.caller) c.in-Err-ask.fault called c.in-Err-ask.ensures.err,
    )

pub returns-in_err-cargo-clause-asked : goal.returns-in_err-cargo-clause-asked
returns-in_err-cargo-clause-asked g c =
    let p = err_from_is_err_and c.from_residual.result c.from_residual.ensures.1 in
    rw (p.1, p.2) (λ called.
    let had = c.in-Ok-ask.ensures.ok called in
    inr (c.in-Ok.manifests.items, c.in-Ok.ensures.ok, λ _. inr (had.0, had.2)))

pub returns-in_err-current_dir-clause-asked : goal.returns-in_err-current_dir-clause-asked
returns-in_err-current_dir-clause-asked g c =
    let p = err_from_is_err_and c.from_residual-in_err-current_dir.result c.from_residual-in_err-current_dir.ensures.1 in
    rw (p.1, p.2) (λ called.
    let had = c.in-Ok-ask.ensures.ok called in
    inr (c.in-Ok.manifests.items, c.in-Ok.ensures.ok, λ _. inr (had.0, had.2)))

pub invariant_of-result : goal.invariant_of-result
invariant_of-result g c = record { each = members-long g.F.Files.tells (g.F.Files.bytes_at c.args.files.now) c.args.metadata c.in-Ok.manifests.items c.in-Ok.ensures.ok }

pub returns-in-Err-clause-calls : goal.returns-in-Err-clause-calls
returns-in-Err-clause-calls g c =
    reads-then g.F.Files (IsMemberPath (metadata_view c.args.metadata)) _ c.args.files.now c.args.files.now c.manifests_of.new.files c.in-Err.fault (λ path here. ((λ called. refl), here)) (none_failed g.F.Files c.args.files.now) (λ told q. refl) c.in-Err.ensures.calls

pub returns-in-Err-ask-clause-calls : goal.returns-in-Err-ask-clause-calls
returns-in-Err-ask-clause-calls g c =
    locate-none g.F.Files _ _ _ g.C.Caller.tells (locate c.args.self.now.args.now c.args.self.now.env.now) (string_bytes c.args.self.now.env.now.current_dir) (g.C.Caller.calls c.args.caller.now) (g.C.Caller.calls c.ask.new.caller) c.in-Err-ask.fault c.in-Err-ask.ensures.err c.in-Ok.ensures.calls
