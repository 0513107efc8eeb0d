use Rattle.std.proofs.Common.{[]}
use Rattle.hack_lanes.specs.Views.{scene_of}
use Rattle.hack_lanes.proofs.GoLemmas.{goes_on}
use Rattle.hack_lanes.proofs.window.Window.fill.Goals as goal

pub returns-then-not-start-clause-goes : goal.returns-then-not-start-clause-goes
returns-then-not-start-clause-goes g c =
    goes_on g.S.Starts.did [] (scene_of c.args.self.now c.args.starts.now) (scene_of c.loop-index.self c.loop-index.starts) (scene_of c.start.new.self c.start.new.starts) g.S.Starts.did_more c.loop-index.invariant.goes c.start.ensures.goes

pub loop-index-preserved : goal.loop-index-preserved
loop-index-preserved g c = record {
  goes = goes_on g.S.Starts.did [] (scene_of c.args.self.now c.args.starts.now) (scene_of c.loop-index.self c.loop-index.starts) (scene_of c.start.new.self c.start.new.starts) g.S.Starts.did_more c.loop-index.invariant.goes c.start.ensures.goes;
  kept = λ h. c.start.ensures.kept (c.loop-index.invariant.kept h);
}
