use Rattle.std.proofs.Common.{false}
use Rattle.hack_process.specs.Calls.{asked_call}
use Rattle.hack_lanes.specs.Views.{scene_of}
use Rattle.hack_lanes.proofs.GoLemmas.{goes_behind, goes_maybe, goes_nowhere}
use Rattle.hack_lanes.proofs.window.Window.run_in_turn.Goals as goal

pub returns-then-is_first-clause-told : goal.returns-then-is_first-clause-told
returns-then-is_first-clause-told g c =
    goes_behind g.S.Starts.did (scene_of c.args.self.now c.args.starts.now) (scene_of c.await_turn.new.self c.await_turn.new.starts) (scene_of c.tell_first.new.self c.tell_first.new.starts) (asked_call c.args.program.now c.args.words.now false) c.tell_first.result
    g.S.Starts.did_more c.await_turn.ensures c.tell_first.ensures.told

pub returns-then-is_first-clause-refused : goal.returns-then-is_first-clause-refused
returns-then-is_first-clause-refused g c =
    goes_nowhere g.S.Starts.did (scene_of c.args.self.now c.args.starts.now) (scene_of c.await_turn.new.self c.await_turn.new.starts) (scene_of c.tell_first.new.self c.tell_first.new.starts) (asked_call c.args.program.now c.args.words.now false) c.tell_first.result
    g.S.Starts.did_more c.await_turn.ensures c.tell_first.ensures.refused

pub returns-clause-told : goal.returns-clause-told
returns-clause-told g c =
    goes_behind g.S.Starts.did (scene_of c.args.self.now c.args.starts.now) (scene_of c.await_turn.new.self c.await_turn.new.starts) (scene_of c.run_alone.new.self c.run_alone.new.starts) (asked_call c.args.program.now c.args.words.now false) c.run_alone.result
    g.S.Starts.did_more c.await_turn.ensures c.run_alone.ensures.told

pub returns-clause-refused : goal.returns-clause-refused
returns-clause-refused g c =
    goes_maybe g.S.Starts.did (scene_of c.args.self.now c.args.starts.now) (scene_of c.await_turn.new.self c.await_turn.new.starts) (scene_of c.run_alone.new.self c.run_alone.new.starts) (asked_call c.args.program.now c.args.words.now false) c.run_alone.result
    g.S.Starts.did_more c.await_turn.ensures c.run_alone.ensures.refused
