use Rattle.std.proofs.Common.{[]}
use Rattle.hack_lanes.specs.Lanes.{Goes, IsWaitedFor}
use Rattle.hack_lanes.specs.Views.{scene_of, state_of}
use Rattle.hack_lanes.proofs.window.Window.fill.Given as goal

abbrev pub invariant-loop-index : goal.invariant-loop-index
invariant-loop-index g l = record {
  goes : Goes g.S.Starts.did [] (scene_of l.fn.self l.fn.starts) (scene_of l.self l.starts);
  kept : IsWaitedFor l.fn.self.turn (state_of l.fn.self) → IsWaitedFor l.self.turn (state_of l.self);
}
