use Rattle.hack_session.specs.GrownSteps.{done_grown}
use Rattle.hack_session.proofs.laws.grown_plans_tell.Goals as goal

pub returns : goal.returns
returns g c = λ keep_going m old new steps a b grown grows runs are did. done_grown old new grown grows g.C.Caller.tells keep_going m runs steps a b are did
