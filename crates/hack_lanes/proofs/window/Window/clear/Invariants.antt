use Rattle.std.proofs.Common.{[], length}
use Rattle.hack_lanes.specs.Lanes.{Goes}
use Rattle.hack_lanes.specs.Views.{scene_of}
use Rattle.hack_lanes.proofs.window.Window.clear.Given as goal

abbrev pub invariant-loop-alloc : goal.invariant-loop-alloc
invariant-loop-alloc g l = record {
  goes : Goes g.S.Starts.did [] (scene_of l.fn.self l.fn.starts) (scene_of l.self l.starts);
}

abbrev pub decreases-loop-alloc : goal.decreases-loop-alloc
decreases-loop-alloc g l = length l.self.children.items
