use Rattle.std.proofs.Common.{subst}
use Rattle.hack_sets.specs.Forest.{sets_in}
use Rattle.hack_features.specs.Rules.{Choice}
use Rattle.hack_plan.specs.RunsView.{runs_in}
use Rattle.hack_samples.specs.Sets.{rows_of}
use Rattle.hack_planner.specs.Kinds.{AreRunSettings}
use Rattle.hack_planner.specs.PackageRules.{rules_in}
use Rattle.hack_planner.proofs.found.by_rules.Goals as goal

pub returns-clause-made : goal.returns-clause-made
returns-clause-made c = record {
  sets = sets_in c.in_ok-sets.sets;
  are_sets = c.in_ok-sets.ensures.sets;
  covers = c.in_ok-sets.ensures.covers;
  made = c.in_ok-runs.ensures;
  settings = subst (λ (q : Choice). AreRunSettings (rules_in c.args.asked.now).strength q (runs_in c.in_ok-runs.runs) (rows_of c.in_ok-settings.settings.items)) c.sets_of.ensures.same_choice c.in_ok-settings.ensures;
}
