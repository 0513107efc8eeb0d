use Rattle.hack_process.specs.Calls.{asked_call}
use Rattle.hack_lanes.specs.Views.{scene_of, state_of, turn_of}
use Rattle.hack_lanes.proofs.GoLemmas.{goes_run, goes_refused}
use Rattle.hack_lanes.proofs.window.Window.run_alone.Goals as goal

pub returns-clause-told : goal.returns-clause-told
returns-clause-told g c =
    goes_run g.S.Starts.did (turn_of c.clear.new.self) (state_of c.clear.new.self) (scene_of c.args.self.now c.args.starts.now) c.clear.new.starts c.perform.new.self (asked_call c.args.program.now c.args.words.now c.args.capture) c.perform.result
    g.S.Starts.did_more c.clear.ensures.goes c.clear.ensures.none c.if-not-is_turn_new.ensures c.perform.ensures.told

pub returns-clause-refused : goal.returns-clause-refused
returns-clause-refused g c =
    goes_refused g.S.Starts.did (turn_of c.clear.new.self) (state_of c.clear.new.self) (scene_of c.args.self.now c.args.starts.now) c.clear.new.starts c.perform.new.self (asked_call c.args.program.now c.args.words.now c.args.capture) c.perform.result
    g.S.Starts.did_more c.clear.ensures.goes c.clear.ensures.none c.if-not-is_turn_new.ensures c.perform.ensures.refused
