use Rattle.std.proofs.Common.{◌∙◌, ◌++◌, ◌∷◌, [], subst, sym}
use Rattle.hack_suspects.specs.Suspects.{outcomes_of}
use Rattle.hack_session.specs.Suspects.{AreOutcomes, starts}
use Rattle.hack_session.proofs.HistoryLemmas.{taken_all, taken_more}
use Rattle.hack_session.proofs.suspects.outcomes.Goals as goal

pub loop-one-init : goal.loop-one-init
loop-one-init c = record {
  split = c.into_iter-one-iterator.ensures.into_iter_gives ∙ c.handed-one-items.ensures.value;
  came = subst (λ l. AreOutcomes c.args.session.now.plan c.args.part [] (outcomes_of l)) (sym c.new-outcomes.ensures.items) starts;
}

pub loop-one-preserved : goal.loop-one-preserved
loop-one-preserved c = record {
  split = taken_more c.loop-one.yielded c.loop-one.one-iterator c.next.new.self c.args.session.now.handed c.in-Some.one c.in-Some.ensures.steps c.loop-one.invariant.split;
  came = subst (λ p. AreOutcomes p c.args.part (c.loop-one.yielded ++ c.in-Some.one ∷ []) (outcomes_of c.add_outcome.new.outcomes.items)) c.plan.ensures
      (c.in_ok-add_outcome.ensures c.loop-one.yielded (subst (λ p. AreOutcomes p c.args.part c.loop-one.yielded (outcomes_of c.loop-one.outcomes.items)) (sym c.plan.ensures) c.loop-one.invariant.came));
}

pub returns : goal.returns
returns c =
    subst (λ l. AreOutcomes c.args.session.now.plan c.args.part l (outcomes_of c.loop-one.outcomes.items))
    (taken_all c.loop-one.yielded c.loop-one.one-iterator c.args.session.now.handed c.in-None.ensures.steps.0 c.loop-one.invariant.split) c.loop-one.invariant.came
