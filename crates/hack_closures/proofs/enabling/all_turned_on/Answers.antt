use Rattle.hack_features.specs.View.{choice_of}
use Rattle.hack_closures.specs.Closures.{candidate_at}
use Rattle.hack_closures.specs.Internal.{AreTurnedOn}
use Rattle.hack_closures.proofs.StepLemmas.{row_pushed, length_pushed}
use Rattle.hack_closures.proofs.enabling.all_turned_on.Goals as goal

pub loop-p-preserved : goal.loop-p-preserved
loop-p-preserved c = record {
  count = rw c.in_ok-push.ensures.items (length_pushed c.loop-p.rows.items c.in_ok-turned_on.field-0 c.loop-p.p-index c.loop-p.invariant.count);
  each = rw c.in_ok-push.ensures.items
      (row_pushed (λ x row. AreTurnedOn (choice_of c.args.rules.now) c.args.alone.now (candidate_at c.args.alone.now x) row) c.loop-p.rows.items c.loop-p.p-index c.in_ok-turned_on.field-0 c.loop-p.invariant.count c.loop-p.invariant.each c.in_ok-turned_on.ensures);
}
