use Rattle.std.proofs.Common.{true, false, subst}
use Rattle.hack_base.specs.Names.{names_of}
use Rattle.hack_run.specs.TemporaryEdits.{IsClean, RestoresEdits}
use Rattle.hack_run.specs.CallChanges.{IsChangeTrace}
use Rattle.hack_run.specs.CallTrace.{IsCallTrace}
use Rattle.hack_files.specs.View.{files_view}
use Rattle.hack_run.specs.Worlds.{host_view, world_of}
use Rattle.hack_term.specs.declared.term.Term.{Term}
use Rattle.hack_run.specs.Refusals.{WritesError}
use Rattle.hack_run.proofs.RefusalLemmas.{refusal_told}
use Rattle.hack_run.proofs.TraceLemmas.{call_moved, comes, told_fault, unended}
use Rattle.hack_base.specs.Streams.{Stream, stream_of}
use Rattle.hack_run.specs.Shown.{looks_of}
use Rattle.hack_run.proofs.ShownCalls.{by_success, looks_ended, none_ended}
use Rattle.hack_run.proofs.run.run.Goals as goal

pub returns-clause-refused : goal.returns-clause-refused
returns-clause-refused g c = λ refused. let h = c.read-came.ensures.refused refused in (told_fault c.read-came.result c.tell_end.new.term c.tell_end.ensures.err h.0, h.1)

pub returns-clause-told : goal.returns-clause-told
returns-clause-told g c = λ refused.
    let quiet = c.read-came.ensures.told refused in
    let after = stream_of g.E.Sink c.tell_end.new.err in
    subst (λ (t : Term). WritesError t.coloring (stream_of g.E.Sink c.args.host.now.err.now) after) quiet.1
    (subst (λ (before : Stream). WritesError c.read-came.new.host.term.now.coloring before after) quiet.2
    (refusal_told c.read-came.result c.args.host.now.env.now _ _ after (c.read-came.ensures.refused refused).0 quiet.0 c.tell_end.ensures.shown))

pub returns-clause-done : goal.returns-clause-done
returns-clause-done g c =
    comes (λ (k : Term). g.C.Caller.tells → IsCallTrace true g.F.Files.tells (names_of c.args.words.now) c.args.host.now.env.now (world_of g.F.Files g.C.Caller g.O.Sink c.args.files.now c.args.host.now)
    (record { files = files_view g.F.Files c.read-came.new.files; host = record (host_view g.C.Caller g.O.Sink c.read-came.new.host) { term = k } }))
    c.read-came.result c.read-came.new.host.term.now c.tell_end.new.term c.read-came.ensures.done c.tell_end.ensures.ok c.tell_end.ensures.err

pub returns-clause-traced : goal.returns-clause-traced
returns-clause-traced g c =
    comes (λ (k : Term). g.C.Caller.tells → g.F.Files.whole → IsChangeTrace g.F.Files.tells (names_of c.args.words.now) c.args.host.now.env.now (world_of g.F.Files g.C.Caller g.O.Sink c.args.files.now c.args.host.now)
    (record { files = files_view g.F.Files c.read-came.new.files; host = record (host_view g.C.Caller g.O.Sink c.read-came.new.host) { term = k } }))
    c.read-came.result c.read-came.new.host.term.now c.tell_end.new.term c.read-came.ensures.traced c.tell_end.ensures.ok c.tell_end.ensures.err

pub returns-clause-made : goal.returns-clause-made
returns-clause-made g c = λ t.
    call_moved false g.F.Files.tells (names_of c.args.words.now) c.args.host.now.env.now (world_of g.F.Files g.C.Caller g.O.Sink c.args.files.now c.args.host.now) (world_of g.F.Files g.C.Caller g.O.Sink c.read-came.new.files c.read-came.new.host)
    (files_view g.F.Files c.read-came.new.files) c.tell_end.new.term (λ e. unended e) (λ e. unended e) (c.read-came.ensures.made t)

pub returns-clause-clean : goal.returns-clause-clean
returns-clause-clean g c =
    comes (λ (k : Term). IsClean (RestoresEdits c.args.host.now.env.now (names_of c.args.words.now)) g.F.Files.tells (files_view g.F.Files c.args.files.now) (files_view g.F.Files c.read-came.new.files))
    c.read-came.result c.read-came.new.host.term.now c.tell_end.new.term c.read-came.ensures.clean c.tell_end.ensures.ok c.tell_end.ensures.err

pub returns-clause-shown : goal.returns-clause-shown
returns-clause-shown g c = λ t.
    let before = c.read-came.new.host.term.now in
    record {
      came = c.read-came.result;
      mid = stream_of g.E.Sink c.read-came.new.host.err.now;
      at = looks_of before;
      said = c.read-came.ensures.shown t;
      end = c.tell_end.ensures.shown;
      ends = looks_ended c.read-came.result before c.tell_end.new.term c.tell_end.ensures.ok c.tell_end.ensures.err c.tell_end.ensures.term;
    }

pub returns-clause-stood : goal.returns-clause-stood
returns-clause-stood g c = λ quiet. by_success _ c.read-came.result c.read-came.ensures.stood (none_ended c.read-came.result c.tell_end.new.term.error c.tell_end.ensures.err quiet)
