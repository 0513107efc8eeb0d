use Rattle.hack_plan.proofs.commands.push_manifest.Goals as goal

pub returns-in-Some : goal.returns-in-Some
returns-in-Some c = rw c.in-Some.is c.push_pair.ensures
