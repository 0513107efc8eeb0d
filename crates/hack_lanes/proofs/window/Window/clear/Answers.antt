use Rattle.std.proofs.Common.{[]}
use Rattle.hack_lanes.specs.Views.{scene_of}
use Rattle.hack_lanes.proofs.GoLemmas.{goes_on}
use Rattle.hack_lanes.proofs.window.Window.clear.Goals as goal

pub loop-alloc-preserved : goal.loop-alloc-preserved
loop-alloc-preserved g c = record {
  goes = goes_on g.S.Starts.did [] (scene_of c.args.self.now c.args.starts.now) (scene_of c.loop-alloc.self c.loop-alloc.starts) (scene_of c.abandon_first.new.self c.abandon_first.new.starts) g.S.Starts.did_more c.loop-alloc.invariant.goes c.abandon_first.ensures.goes;
}
