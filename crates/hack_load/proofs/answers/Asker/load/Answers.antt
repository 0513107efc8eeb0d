use Rattle.std.proofs.Common.{◌≡◌, inl, inr, refl, Ok, Err}
use Rattle.std.specs.Prelude.{option_copied}
use Rattle.hack_metadata.specs.Requests.{question}
use Rattle.hack_load.proofs.AnswerLemmas.{ended-later, ends-so, follows-earlier, loaded-later}
use Rattle.hack_files.proofs.RefusalLemmas.{but_same, but_then}
use Rattle.hack_load.proofs.LeaveLemmas.{few-left, few-reads, reads-grow}
use Rattle.hack_metadata.specs.MetadataView.{metadata_view}
use Rattle.hack_load.specs.FailedLoads.{IsMemberPath}
use Rattle.hack_load.proofs.FailedLemmas.{asked-loads, only-then, reads-load}
use Rattle.hack_load.proofs.answers.Asker.load.Goals as goal

pub returns-in-Ok-clause-left : goal.returns-in-Ok-clause-left
returns-in-Ok-clause-left g c =
    few-reads g.F.Files.tells (g.F.Files.bytes_at c.args.files.now) (g.F.Files.bytes_at c.new.new.files) (g.F.Files.bytes_at c.load_behind.new.files) (g.F.Files.failed c.args.files.now) (g.F.Files.failed c.new.new.files) (g.F.Files.failed c.load_behind.new.files)
    c.load_behind.result c.in-Ok.ensures.left.1 c.load_behind.ensures.left

pub returns-in-Ok-clause-read : goal.returns-in-Ok-clause-read
returns-in-Ok-clause-read g c =
    loaded-later g.F.Files.tells (g.F.Files.bytes_at c.new.new.files) (g.F.Files.bytes_at c.load_behind.new.files) (g.F.Files.failed c.new.new.files) (g.F.Files.failed c.load_behind.new.files) c.args.self.now.env.now c.load_behind.result
    c.load_behind.ensures.left c.load_behind.ensures.read

pub returns-in-Ok-clause-asked : goal.returns-in-Ok-clause-asked
returns-in-Ok-clause-asked g c =
    let q = question c.args.self.now.args.now c.args.self.now.env.now c.args.self.now.minor (option_copied c.args.self.now.host) in
    let held = g.F.Files.bytes_at c.args.files.now in
    let later = g.F.Files.bytes_at c.new.new.files in
    let mid = g.C.Caller.calls c.new.new.caller in
    λ called. record {
      asked = Ok c.in-Ok.metadata;
      mid = mid;
      ends = ended-later g.F.Files q c.args.files.now c.new.new.files c.load_behind.new.files (g.C.Caller.calls c.args.caller.now) mid c.in-Ok.metadata (c.in-Ok.ensures.ends called) c.load_behind.ensures.untraced;
      follows = follows-earlier g.F.Files.tells c.args.self.now.args.now c.args.self.now.env.now held later (g.F.Files.failed c.args.files.now) (g.F.Files.failed c.new.new.files) (g.F.Files.failed c.load_behind.new.files) c.in-Ok.metadata mid (g.C.Caller.calls c.load_behind.new.caller) c.load_behind.result
          c.in-Ok.ensures.left.1 (c.load_behind.ensures.asked called);
    }

pub returns-in-Err-clause-left : goal.returns-in-Err-clause-left
returns-in-Err-clause-left g c =
    few-left c.in-Err.ensures.left.0 g.F.Files.tells (g.F.Files.bytes_at c.args.files.now) (g.F.Files.bytes_at c.new.new.files) (g.F.Files.failed c.args.files.now) (g.F.Files.failed c.new.new.files) c.in-Err.fault c.in-Err.ensures.left.1

pub returns-in-Err-clause-asked : goal.returns-in-Err-clause-asked
returns-in-Err-clause-asked g c =
    λ called. record {
      asked = Err c.in-Err.fault;
      mid = g.C.Caller.calls c.new.new.caller;
      ends = ends-so g.F.Files (question c.args.self.now.args.now c.args.self.now.env.now c.args.self.now.minor (option_copied c.args.self.now.host)) c.args.files.now c.new.new.files (g.C.Caller.calls c.args.caller.now) (g.C.Caller.calls c.new.new.caller) (Err c.in-Err.fault) (c.in-Err.ensures.ends called);
      follows = (refl, c.of_question.result, c.of_question.ensures, refl);
    }

pub returns-in-Ok-clause-spoilt : goal.returns-in-Ok-clause-spoilt
returns-in-Ok-clause-spoilt g c =
    let looked = reads-grow g.F.Files.tells (g.F.Files.bytes_at c.new.new.files) (g.F.Files.bytes_at c.load_behind.new.files) (g.F.Files.failed c.new.new.files) (g.F.Files.failed c.load_behind.new.files) c.load_behind.result c.load_behind.ensures.left in
    but_then (g.F.Files.refuses c.args.files.now c.new.new.files) (g.F.Files.refuses c.new.new.files c.load_behind.new.files) (g.F.Files.refuses c.args.files.now c.load_behind.new.files) _ _ _ _ (λ ps qs one other. g.F.Files.refuses_more _ _ _ ps qs one other)
    c.in-Ok.ensures.spoilt (but_same _ _ _ _ (g.F.Files.refuses_some _ _ looked.0) looked.1)

pub returns-in-Ok-clause-stays : goal.returns-in-Ok-clause-stays
returns-in-Ok-clause-stays g c = g.F.Files.stays_more _ _ _ c.in-Ok.ensures.stays c.load_behind.ensures.stays

pub returns-in-Ok-clause-course : goal.returns-in-Ok-clause-course
returns-in-Ok-clause-course g c = g.C.Caller.course_more _ _ _ c.in-Ok.ensures.course c.load_behind.ensures.course

pub returns-in-Ok-clause-calls : goal.returns-in-Ok-clause-calls
returns-in-Ok-clause-calls g c = reads-load g.F.Files _ c.args.files.now c.new.new.files c.load_behind.new.files c.load_behind.result c.in-Ok.ensures.calls.1 c.in-Ok.ensures.left.1.1 c.load_behind.ensures.calls

pub returns-in-Ok-clause-undone : goal.returns-in-Ok-clause-undone
returns-in-Ok-clause-undone g c =
    let q = question c.args.self.now.args.now c.args.self.now.env.now c.args.self.now.minor (option_copied c.args.self.now.host) in
    let mid = g.C.Caller.calls c.new.new.caller in
    let last = g.C.Caller.calls c.load_behind.new.caller in
    λ called. inl (record {
      metadata = c.in-Ok.metadata;
      mid = mid;
      told = ended-later g.F.Files q c.args.files.now c.new.new.files c.load_behind.new.files (g.C.Caller.calls c.args.caller.now) mid c.in-Ok.metadata (c.in-Ok.ensures.ends called) c.load_behind.ensures.untraced;
      reads = only-then g.F.Files _ (λ path. (last ≡ mid) × IsMemberPath (metadata_view c.in-Ok.metadata) path) c.args.files.now c.new.new.files c.load_behind.new.files c.load_behind.result (λ path here. (here.0 called, here.1)) c.in-Ok.ensures.calls.1 c.in-Ok.ensures.left.1.1 c.load_behind.ensures.calls;
    })

pub returns-in-Err-clause-calls : goal.returns-in-Err-clause-calls
returns-in-Err-clause-calls g c = asked-loads g.F.Files c.in-Err.ensures.calls.0 _ _ c.in-Err.fault c.of_question.result c.of_question.ensures c.in-Err.ensures.calls.1

pub returns-in-Err-clause-undone : goal.returns-in-Err-clause-undone
returns-in-Err-clause-undone g c = λ called. inr (record {
  why = c.in-Err.fault;
  fault = c.of_question.result;
  stops = c.in-Err.ensures.ends called;
  told = c.of_question.ensures;
  is = refl;
})
