use Rattle.std.proofs.Common.{refl}
use Rattle.hack_journaled.proofs.JournalLemmas.{edits_between}
use Rattle.hack_recovery.proofs.CallLemmas.{lasting_by, spoilt_by}
use Rattle.hack_recovery.proofs.LaneLemmas.{lanes_by_error}
use Rattle.hack_recovery.proofs.unjournaled.unjournaled.Goals as goal

pub returns-clause-runs : goal.returns-clause-runs
returns-clause-runs g c = λ lockfiles unkept locks guards.
    let ran = c.run.ensures in
    record { refused = ran.refused; done = ran.done; traced = ran.traced; made = ran.made; said = λ t. record { before = c.args.files.now; after = c.run.new.files; first = refl; last = refl; said = ran.shown t }; back = ran.back; stood = λ quiet. edits_between _ _ _ _ _ _ _ _ (λ held was. (_, _, was)) (ran.stood quiet); spoilt = λ back. spoilt_by g.F.Files _ _ _ _ _ (ran.spoilt back); lasting = lasting_by g.F.Files _ _ _ _ _ _ _ _ _ ran.lasting; clean = ran.clean; lockfiles = refl; unkept = refl; locks = refl; guards = refl }

pub returns-clause-in_lanes : goal.returns-clause-in_lanes
returns-clause-in_lanes g c = lanes_by_error g.C.Starts.did g.C.Caller.course g.C.Caller.tells g.C.Caller.calls _ _ _ _ _ _ c.run.new.host.term.now.error c.run.ensures.lanes c.run.ensures.in_lanes
