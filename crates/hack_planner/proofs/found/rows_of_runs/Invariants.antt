use Rattle.std.proofs.Common.{◌≤◌, length, take}
use Rattle.std.specs.List.{AllZip}
use Rattle.hack_samples.specs.Sets.{rows_of}
use Rattle.hack_features.specs.View.{choice_of}
use Rattle.hack_planner.specs.Kinds.{IsRowOf}
use Rattle.hack_plan.specs.RunsView.{runs_in}
use Rattle.hack_planner.proofs.found.rows_of_runs.Given as goal

-- a row for each run so far
abbrev pub invariant-loop-rank : goal.invariant-loop-rank
invariant-loop-rank l =
    (l.rank ≤ length (runs_in l.runs))
    × AllZip (IsRowOf (choice_of l.rules)) (take l.rank (runs_in l.runs)) (rows_of l.rows.items)
