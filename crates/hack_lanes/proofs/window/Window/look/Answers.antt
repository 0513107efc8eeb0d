use Rattle.std.proofs.Common.{[]}
use Rattle.hack_lanes.specs.Views.{scene_of}
use Rattle.hack_lanes.proofs.GoLemmas.{goes_on}
use Rattle.hack_lanes.proofs.window.Window.look.Goals as goal

pub loop-index-preserved : goal.loop-index-preserved
loop-index-preserved g c = record {
  goes = goes_on g.S.Starts.did [] (scene_of c.args.self.now c.args.starts.now) (scene_of c.loop-index.self c.loop-index.starts) (scene_of c.look_at.new.self c.look_at.new.starts) g.S.Starts.did_more c.loop-index.invariant.goes c.look_at.ensures.goes;
  awaited = c.look_at.ensures.awaited;
}
