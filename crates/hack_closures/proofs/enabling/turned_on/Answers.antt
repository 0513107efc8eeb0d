use Rattle.std.proofs.Common.{arith}
use Rattle.hack_features.specs.View.{choice_of}
use Rattle.hack_closures.specs.Closures.{TurnsOn, candidate_at}
use Rattle.hack_closures.proofs.StepLemmas.{mark_pushed}
use Rattle.hack_closures.proofs.enabling.turned_on.Goals as goal

pub loop-q-preserved : goal.loop-q-preserved
loop-q-preserved c = record {
  count = omega (arith, c.in_ok-push.ensures.len, c.loop-q.invariant.count);
  each = rw c.in_ok-push.ensures.items
      (mark_pushed (λ y. TurnsOn (choice_of c.args.rules.now) c.args.p (candidate_at c.args.alone.now y)) c.loop-q.row.items c.loop-q.q-index c.turns_on.result c.loop-q.invariant.count c.loop-q.invariant.each c.turns_on.ensures);
}
