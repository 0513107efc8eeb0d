use Rattle.std.proofs.Common.{refl}
use Rattle.hack_base.specs.Streams.{stream_of}
use Rattle.hack_journaled.proofs.JournalLemmas.{edits_between}
use Rattle.hack_recovery.proofs.CallLemmas.{journals_at}
use Rattle.hack_recovery.specs.Scenes.{Scene, scene_of}
use Rattle.hack_recovery.proofs.LaneLemmas.{closed_quiet, lanes_by_error}
use Rattle.hack_recovery.proofs.perform.over_journal.Goals as goal

pub returns-clause-goes : goal.returns-clause-goes
returns-clause-goes g c = λ locks guards.
    let old : Scene = scene_of g.F.Files g.L.Files g.U.Unkept g.C.Caller g.O.Sink g.E.Sink c.args.files c.args.lockfiles c.args.unkept locks guards c.args.host.now in
    let last : Scene = scene_of g.F.Files g.L.Files g.U.Unkept g.C.Caller g.O.Sink g.E.Sink c.run_journaled-files.result.1 c.run_journaled-files.result.2 c.run_journaled-files.result.4 locks guards c.run_journaled-files.new.host in
    let ran = c.run_journaled-files.ensures in
    record {
      failed = c.run_journaled-files.result.3;
      last = last;
      err = stream_of g.E.Sink c.tell_unkept.new.err;
      unkept = rw (c.count-noted.ensures, c.count.ensures, c.as_str.ensures.value) at c.tell_unkept.ensures;
      journals = journals_at g.F.Files g.L.Files g.U.Unkept _ _ _ _ _ _ _ old last c.requires.place
          (record { refused = ran.refused; done = ran.done; traced = ran.traced; made = ran.made; said = ran.shown; clean = ran.clean; back = ran.back; stood = λ quiet. edits_between _ _ _ _ _ _ _ _ (λ held was. (_, _, _, _, was)) (ran.stood quiet); few = ran.few; spoilt = ran.spoilt; number = ran.number; gone = ran.gone; ended = ran.ended; safe = ran.safe; others = ran.others; locks = refl; guards = refl });
      unwritten = c.run_journaled-files.result.5;
      refused = record { before = c.args.lockfiles; after = c.run_journaled-files.result.2; first = refl; last = refl; noted = ran.unwritten };
      closes = record {
        others = c.close.ensures.others;
        made = c.close.ensures.made;
        lockfiles = refl;
        quiet = record { calls = refl; out = refl; stdout = refl; fails = refl; unkept = refl; locks = refl; guards = refl };
        told = c.close.ensures.told;
      };
    }

pub returns-clause-in_lanes : goal.returns-clause-in_lanes
returns-clause-in_lanes g c =
    lanes_by_error g.C.Starts.did g.C.Caller.course g.C.Caller.tells g.C.Caller.calls _ _ _ _ _ _ c.close.new.term.error
    (λ quiet. c.run_journaled-files.ensures.lanes (closed_quiet g.F.Files _ _ _ _ _ _ _ _ c.close.ensures.told quiet)) c.run_journaled-files.ensures.in_lanes
