use Rattle.std.proofs.Common.{inr, refl}
use Rattle.hack_files.specs.View.{files_view}
use Rattle.hack_recovery.specs.CallCourses.Continues.{journaled, permanent, unedited}
use Rattle.hack_recovery.proofs.LaneLemmas.{ready_now}
use Rattle.hack_recovery.specs.LaneCalls.{plain, unperformed}
use Rattle.hack_recovery.proofs.perform.go_on.Goals as goal

pub returns-in-None-clause-goes : goal.returns-in-None-clause-goes
returns-in-None-clause-goes g c =
    unedited (g.K.Locks.shown c.release.new.self) c.in-None.is c.release.ensures
    (c.unjournaled-status.ensures.runs (files_view g.L.Files c.args.lockfiles) (g.U.Unkept.told c.args.unkept) (g.K.Locks.shown c.release.new.self) (g.G.Guards.shown c.args.keepers.now.guards))

pub returns-in-Permanent-clause-goes : goal.returns-in-Permanent-clause-goes
returns-in-Permanent-clause-goes g c =
    permanent c.in-Permanent.is
    (c.unjournaled-status-in-Permanent.ensures.runs (files_view g.L.Files c.args.lockfiles) (g.U.Unkept.told c.args.unkept) (g.K.Locks.shown c.args.keepers.now.locks) (g.G.Guards.shown c.args.keepers.now.guards))

pub returns-in-Temporary-clause-goes : goal.returns-in-Temporary-clause-goes
returns-in-Temporary-clause-goes g c = journaled c.in-Temporary.is (c.journaled.ensures.goes (g.K.Locks.shown c.args.keepers.now.locks))

pub returns-in-None-clause-in_lanes : goal.returns-in-None-clause-in_lanes
returns-in-None-clause-in_lanes g c =
    plain (files_view g.F.Files c.args.files, files_view g.L.Files c.args.lockfiles) (ready_now g.F.Files g.L.Files _ _ _) c.unjournaled-status.ensures.in_lanes

pub returns-in-Permanent-clause-in_lanes : goal.returns-in-Permanent-clause-in_lanes
returns-in-Permanent-clause-in_lanes g c =
    plain (files_view g.F.Files c.args.files, files_view g.L.Files c.args.lockfiles) (ready_now g.F.Files g.L.Files _ _ _) c.unjournaled-status-in-Permanent.ensures.in_lanes

pub returns-in-Temporary-clause-in_lanes : goal.returns-in-Temporary-clause-in_lanes
returns-in-Temporary-clause-in_lanes g c = c.journaled.ensures.in_lanes

pub returns-in-Restore-clause-in_lanes : goal.returns-in-Restore-clause-in_lanes
returns-in-Restore-clause-in_lanes g c = unperformed (inr c.in-Restore.is) refl
