use Rattle.hack_conflicts.specs.Runs.{finding_of}
use Rattle.hack_hunt.proofs.ToldLemmas.{were_run}
use Rattle.hack_hunt.proofs.one.hunt_aim.Goals as goal

pub returns-in-Ok-clause-hunted : goal.returns-in-Ok-clause-hunted
returns-in-Ok-clause-hunted g c =
    let ran = c.in_ok-found.ensures.found in
    let told = c.in-Ok.ensures in
    (finding_of c.in_ok-found.found, ran, told, were_run c.args.aim c.args.most_runs (finding_of c.in_ok-found.found) ran.made c.in-Ok.hunted _ _ ran.hunt told)
