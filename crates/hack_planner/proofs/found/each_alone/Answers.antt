use Rattle.std.proofs.Common.{ap}
use Rattle.hack_sets.specs.Forest.{sets_in}
use Rattle.hack_plan.specs.RunsView.{runs_in}
use Rattle.hack_samples.specs.Sets.{rows_of}
use Rattle.hack_planner.specs.PackageRules.{rules_in}
use Rattle.hack_planner.proofs.KindLemmas.{alone-made}
use Rattle.hack_planner.proofs.found.each_alone.Goals as goal

pub returns : goal.returns
returns c = λ choice.
    alone-made (rules_in c.args.asked.now) c.args.features.now choice c.args.candidates (sets_in c.in_ok-sets.sets) (runs_in c.in_ok-runs.runs) c.in_ok-runs.is_plain _
    c.requires.each c.requires.all c.in_ok-sets.ensures c.in_ok-runs.ensures (ap rows_of c.new.ensures.items)
