use Rattle.std.proofs.lemmas.Result.{IfOk-weaker}
use Rattle.hack_features.specs.View.{choice_of}
use Rattle.hack_plan.specs.RunsView.{runs_in}
use Rattle.hack_samples.specs.Sets.{rows_of}
use Rattle.hack_planner.specs.PackageRules.{rules_in}
use Rattle.hack_planner.proofs.SampleLemmas.{with-strength}
use Rattle.hack_planner.proofs.found.run_settings.Goals as goal

pub returns : goal.returns
returns c =
    IfOk-weaker c.rows_of_runs.result _ _
    (λ rows are. with-strength (rules_in c.args.asked.now).strength (choice_of c.args.rules.now) (runs_in c.args.runs.now) (rows_of rows.items) c.if-is_none.ensures are)
    c.rows_of_runs.ensures
