use Rattle.std.proofs.Common.{arith, ℕ}
use Rattle.hack_samples.specs.Sets.{rows_of}
use Rattle.hack_suspects.specs.Counts.{FailsWith, no_runs}
use Rattle.hack_suspects.proofs.CountLemmas.{one-counted, one-left}
use Rattle.hack_suspects.proofs.counts.count_showing.Goals.{then-fails_with, else-fails_with}
use Rattle.hack_suspects.proofs.counts.count_showing.Goals as goal

pub loop-run-init : goal.loop-run-init
loop-run-init c = record { few = omega arith; is = no_runs }

pub loop-run-preserved : goal.loop-run-preserved
loop-run-preserved c =
    let runs = c.args.outcomes.now in
    let i : ℕ = c.loop-run.run-index in
    elim c.if-fails_with.branch [
      | then-fails_with w ↦ record {
        few = omega (arith, w.count-is, c.loop-run.invariant.few);
        is = one-counted (FailsWith (rows_of c.args.patterns.now)) runs i c.run-item.result c.loop-run-test.true c.run-item.is c.loop-run.count c.loop-run.invariant.is _ w.count-is w.if-fails_with.ensures;
      }
      | else-fails_with w ↦ record {
        few = omega (arith, w.count-is, c.loop-run.invariant.few);
        is = one-left (FailsWith (rows_of c.args.patterns.now)) runs i c.run-item.result c.loop-run-test.true c.run-item.is c.loop-run.count c.loop-run.invariant.is _ w.count-is w.if-fails_with.ensures;
      }
    ]
