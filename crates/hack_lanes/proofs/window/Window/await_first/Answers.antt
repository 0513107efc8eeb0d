use Rattle.std.proofs.Common.{[]}
use Rattle.hack_lanes.specs.Views.{scene_of, state_of, turn_of}
use Rattle.hack_lanes.proofs.GoLemmas.{goes_on, goes_waited, waited-awaited}
use Rattle.hack_lanes.proofs.window.Window.await_first.Goals as goal

pub returns-then-not-is_waited_for : goal.returns-then-not-is_waited_for
returns-then-not-is_waited_for g c =
    goes_on g.S.Starts.did [] (scene_of c.args.self.now c.args.starts.now) (scene_of c.loop.self c.loop.starts) (scene_of c.look.new.self c.look.new.starts) g.S.Starts.did_more c.loop.invariant.goes c.look.ensures.goes

pub loop-preserved : goal.loop-preserved
loop-preserved g c = record {
  goes = goes_on g.S.Starts.did [] (scene_of c.args.self.now c.args.starts.now) (scene_of c.fill.new.self c.fill.new.starts) (record (scene_of c.fill.new.self c.fill.new.starts) { starts = c.pause.new.self }) g.S.Starts.did_more
      (goes_on g.S.Starts.did [] (scene_of c.args.self.now c.args.starts.now) (scene_of c.look.new.self c.look.new.starts) (scene_of c.fill.new.self c.fill.new.starts) g.S.Starts.did_more
      (goes_on g.S.Starts.did [] (scene_of c.args.self.now c.args.starts.now) (scene_of c.loop.self c.loop.starts) (scene_of c.look.new.self c.look.new.starts) g.S.Starts.did_more c.loop.invariant.goes c.look.ensures.goes)
      c.fill.ensures.goes)
      (goes_waited g.S.Starts.did (turn_of c.fill.new.self) c.fill.new.self.last c.fill.new.self.children.items c.count_ended.result c.count_running.result c.fill.new.starts c.pause.new.self (c.fill.ensures.kept (rw c.if-not-is_waited_for.false at c.is_waited_for.ensures)) c.count_ended.ensures c.count_running.ensures c.pause.ensures);
  awaited = waited-awaited c.fill.new.self.turn (state_of c.fill.new.self) (c.fill.ensures.kept (rw c.if-not-is_waited_for.false at c.is_waited_for.ensures));
}
