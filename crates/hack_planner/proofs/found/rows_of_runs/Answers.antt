use Rattle.std.proofs.Common.{subst, arith}
use Rattle.hack_features.specs.View.{choice_of}
use Rattle.hack_plan.specs.Runs.{run_of}
use Rattle.hack_planner.specs.Kinds.{IsRowOf}
use Rattle.hack_plan.specs.RunsView.{runs_in}
use Rattle.hack_planner.proofs.RowLemmas.{rows-more}
use Rattle.hack_planner.proofs.found.rows_of_runs.Goals as goal

pub loop-rank-preserved : goal.loop-rank-preserved
loop-rank-preserved c =
    let runs = c.args.runs.now in
    let k = c.loop-rank.rank in
    let row = c.in_ok-row.row in (
      omega (arith, c.loop-rank-test.true, c.len-rank-end.ensures),
      rows-more (IsRowOf (choice_of c.args.rules.now)) (runs_in runs) k (run_of c.in_ok-run.run' c.run.new.positions.items) c.loop-rank.rows.items c.push.new.self.items row (omega (arith, c.loop-rank-test.true, c.len-rank-end.ensures)) c.in_ok-run.ensures
          (subst (λ ps. IsRowOf (choice_of c.args.rules.now) (run_of c.in_ok-run.run' ps) row.items) c.as_slice.ensures.value c.in_ok-row.ensures)
          c.in_ok-push.ensures.items c.loop-rank.invariant.1,
    )
