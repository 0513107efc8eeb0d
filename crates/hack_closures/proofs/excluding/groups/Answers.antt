use Rattle.std.proofs.Common.{[], get_or}
use Rattle.hack_features.specs.View.{choice_of}
use Rattle.hack_closures.specs.Internal.{AreReaching}
use Rattle.hack_closures.proofs.StepLemmas.{row_pushed, length_pushed}
use Rattle.hack_closures.proofs.excluding.groups.Goals as goal

pub loop-group-preserved : goal.loop-group-preserved
loop-group-preserved c =
    let k = choice_of c.args.rules.now in
    record {
      count = rw c.in_ok-push.ensures.items (length_pushed c.loop-group.rows.items c.in_ok-reaching.field-0 c.loop-group.group c.loop-group.invariant.count);
      each = rw c.in_ok-push.ensures.items
          (row_pushed (λ x row. AreReaching k c.args.alone.now (get_or k.exclusive x []) row) c.loop-group.rows.items c.loop-group.group c.in_ok-reaching.field-0 c.loop-group.invariant.count c.loop-group.invariant.each c.in_ok-reaching.ensures);
    }
