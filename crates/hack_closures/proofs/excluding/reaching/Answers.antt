use Rattle.std.proofs.Common.{[], get_or, arith}
use Rattle.hack_features.specs.Rules.{CandidateReaches}
use Rattle.hack_features.specs.View.{choice_of}
use Rattle.hack_closures.specs.Closures.{candidate_at}
use Rattle.hack_closures.proofs.StepLemmas.{mark_pushed}
use Rattle.hack_closures.proofs.excluding.reaching.Goals as goal

pub loop-q-preserved : goal.loop-q-preserved
loop-q-preserved c =
    let k = choice_of c.args.rules.now in
    record {
      count = omega (arith, c.in_ok-push.ensures.len, c.loop-q.invariant.count);
      each = rw c.in_ok-push.ensures.items
          (mark_pushed (λ y. CandidateReaches k (get_or k.exclusive c.args.group []) (candidate_at c.args.alone.now y)) c.loop-q.row.items c.loop-q.q-index c.reaches.result c.loop-q.invariant.count c.loop-q.invariant.each c.reaches.ensures);
    }
