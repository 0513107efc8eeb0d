use Rattle.std.proofs.Common.{◌∙◌, ap, inl, refl}
use Rattle.std.specs.Prelude.{not}
use Rattle.hack_places.specs.PlacesView.{places_view}
use Rattle.hack_term.specs.declared.term.Term.{Term}
use Rattle.hack_recovery.specs.CallCourses.IsLockedCourse.{cut_short, ended, went_on}
use Rattle.hack_recovery.specs.Scenes.{Scene, scene_of}
use Rattle.hack_recovery.proofs.LaneLemmas.{behind}
use Rattle.hack_recovery.specs.LaneCalls.{unperformed}
use Rattle.hack_recovery.specs.Ready.GetReady.{taken_back}
use Rattle.hack_recovery.proofs.perform.guarded.Goals as goal

pub returns-then-not-is_back-clause-goes : goal.returns-then-not-is_back-clause-goes
returns-then-not-is_back-clause-goes g c =
    let unkept = g.U.Unkept.told c.args.unkept in
    let locks = g.K.Locks.shown c.args.keepers.now.locks in
    let guards = g.G.Guards.shown c.args.keepers.now.guards in
    ended (rw c.if-not-is_back.true at (c.in-Ok.ensures.goes unkept locks guards)) ((rw c.if-not-is_back.true at c.in-Ok.ensures.stopped) refl)

pub returns-else-not-is_back-clause-goes : goal.returns-else-not-is_back-clause-goes
returns-else-not-is_back-clause-goes g c =
    let unkept = g.U.Unkept.told c.args.unkept in
    let locks = g.K.Locks.shown c.args.keepers.now.locks in
    let guards = g.G.Guards.shown c.args.keepers.now.guards in
    let at : Scene = scene_of g.F.Files g.L.Files g.U.Unkept g.C.Caller g.O.Sink g.E.Sink c.take_back.new.files c.take_back.new.lockfiles c.args.unkept locks guards c.take_back.new.host in
    went_on at (rw c.if-not-is_back.false at (c.in-Ok.ensures.goes unkept locks guards)) (rw c.in-Ok.ensures.host.env at c.go_on.ensures.goes)

pub returns-in-Err-clause-goes : goal.returns-in-Err-clause-goes
returns-in-Err-clause-goes g c =
    let unkept = g.U.Unkept.told c.args.unkept in
    let locks = g.K.Locks.shown c.args.keepers.now.locks in
    let guards = g.G.Guards.shown c.args.keepers.now.guards in
    let at : Scene = scene_of g.F.Files g.L.Files g.U.Unkept g.C.Caller g.O.Sink g.E.Sink c.take_back.new.files c.take_back.new.lockfiles c.args.unkept locks guards c.take_back.new.host in
    cut_short at c.in-Err.fault (c.in-Err.ensures.goes unkept locks guards) (c.report.ensures.refuses at.files at.lockfiles unkept locks guards)

pub returns-then-not-is_back-clause-in_lanes : goal.returns-then-not-is_back-clause-in_lanes
returns-then-not-is_back-clause-in_lanes g c = unperformed (inl (ap not ((rw c.if-not-is_back.true at c.in-Ok.ensures.stopped) refl))) c.in-Ok.ensures.still.0

pub returns-else-not-is_back-clause-in_lanes : goal.returns-else-not-is_back-clause-in_lanes
returns-else-not-is_back-clause-in_lanes g c =
    let unkept = g.U.Unkept.told c.args.unkept in
    let locks = g.K.Locks.shown c.args.keepers.now.locks in
    let guards = g.G.Guards.shown c.args.keepers.now.guards in
    let first : Scene = scene_of g.F.Files g.L.Files g.U.Unkept g.C.Caller g.O.Sink g.E.Sink c.args.files c.args.lockfiles c.args.unkept locks guards c.args.host.now in
    let at : Scene = scene_of g.F.Files g.L.Files g.U.Unkept g.C.Caller g.O.Sink g.E.Sink c.take_back.new.files c.take_back.new.lockfiles c.args.unkept locks guards c.take_back.new.host in
    behind g.C.Starts.did g.C.Caller.course g.C.Caller.tells g.C.Caller.calls g.F.Files g.L.Files _ _ _ _ _ _ (at.files, at.lockfiles) _ _
    (taken_back (places_view c.args.begun.places) refl first at (rw c.if-not-is_back.false at (c.in-Ok.ensures.goes unkept locks guards)) refl refl)
    (rw (c.in-Ok.ensures.host.env, c.in-Ok.ensures.still.0) at c.go_on.ensures.in_lanes)

pub returns-in-Err-clause-in_lanes : goal.returns-in-Err-clause-in_lanes
returns-in-Err-clause-in_lanes g c = unperformed (inl (ap (λ (t : Term). not t.error) c.report.ensures.noted)) (c.report.ensures.still.0 ∙ c.in-Err.ensures.still.0)
