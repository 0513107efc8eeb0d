use Rattle.std.proofs.Common.{◌↔◌, ◌∷◌, ◌⊎◌, [], ◌∙◌, subst, AllPairs, Contains}
use Rattle.hack_session.specs.declared.suspects.Part.{Part}
use Rattle.hack_session.specs.Suspects.{FailsBefore, HasFailedRun}
use Rattle.hack_session.proofs.HistoryLemmas.{taken_all, taken_more}
use Rattle.hack_session.proofs.SuspectLemmas.{no-parts, ordered-more, parts-more}
use Rattle.hack_session.proofs.suspects.failed_parts.Goals as goal

pub loop-one-init : goal.loop-one-init
loop-one-init c =
    let none = no-parts c.args.session.now.plan c.new-parts.result.items c.new-parts.ensures.items in
    record {
      split = c.into_iter-one-iterator.ensures.into_iter_gives ∙ c.handed-one-items.ensures.value;
      ordered = none.0;
      exactly = none.1;
    }

pub loop-one-preserved : goal.loop-one-preserved
loop-one-preserved c = record {
  split = taken_more c.loop-one.yielded c.loop-one.one-iterator c.next.new.self c.args.session.now.handed c.in-Some.one c.in-Some.ensures.steps c.loop-one.invariant.split;
  ordered = ordered-more c.args.session.now.plan c.loop-one.yielded c.in-Some.one c.loop-one.parts.items c.add_failed.new.parts.items c.in_ok-add_failed.ensures.once c.loop-one.invariant.exactly c.loop-one.invariant.ordered;
  exactly = parts-more c.args.session.now.plan c.loop-one.yielded c.in-Some.one c.loop-one.parts.items c.add_failed.new.parts.items
      (subst (λ p. (part : Part) → Contains c.add_failed.new.parts.items part ↔ (Contains c.loop-one.parts.items part ⊎ HasFailedRun p (c.in-Some.one ∷ []) part)) c.plan.ensures c.in_ok-add_failed.ensures.exactly)
      c.loop-one.invariant.exactly;
}

pub returns-clause-exactly : goal.returns-clause-exactly
returns-clause-exactly c =
    subst (λ l. (part : Part) → Contains c.loop-one.parts.items part ↔ HasFailedRun c.args.session.now.plan l part)
    (taken_all c.loop-one.yielded c.loop-one.one-iterator c.args.session.now.handed c.in-None.ensures.steps.0 c.loop-one.invariant.split) c.loop-one.invariant.exactly

pub returns-clause-ordered : goal.returns-clause-ordered
returns-clause-ordered c =
    subst (λ l. AllPairs (FailsBefore c.args.session.now.plan l) c.loop-one.parts.items)
    (taken_all c.loop-one.yielded c.loop-one.one-iterator c.args.session.now.handed c.in-None.ensures.steps.0 c.loop-one.invariant.split) c.loop-one.invariant.ordered
