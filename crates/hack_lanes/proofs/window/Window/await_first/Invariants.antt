use Rattle.std.proofs.Common.{[]}
use Rattle.hack_lanes.specs.Lanes.{Goes, IsAwaited}
use Rattle.hack_lanes.specs.Views.{scene_of, state_of}
use Rattle.hack_lanes.proofs.window.Window.await_first.Given as goal

abbrev pub invariant-loop : goal.invariant-loop
invariant-loop g l = record {
  goes : Goes g.S.Starts.did [] (scene_of l.fn.self l.fn.starts) (scene_of l.self l.starts);
  awaited : IsAwaited l.self.turn (state_of l.self);
}
