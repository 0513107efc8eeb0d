use Rattle.std.proofs.Common.{refl, false}
use Rattle.hack_process.specs.Calls.{asked_call}
use Rattle.hack_lanes.specs.Views.{scene_in, scene_of}
use Rattle.hack_lanes.proofs.GoLemmas.{goes_told}
use Rattle.hack_lanes.proofs.lanes.LanesCaller.call.Goals as goal

pub returns-clause-course : goal.returns-clause-course
returns-clause-course g c = (
  refl,
  refl,
  goes_told g.S.Starts.did (scene_in c.args.self.now) (scene_of c.run_in_turn.new.self c.run_in_turn.new.starts) (asked_call c.args.program.now c.args.words.now false) c.run_in_turn.result c.run_in_turn.ensures.told c.run_in_turn.ensures.refused,
)
