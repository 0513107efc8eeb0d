use Rattle.std.proofs.Common.{◌≡◌, ◌∙◌, ◌++◌, ◌∷◌, [], sym, subst, rules, None}
use Rattle.hack_session.specs.Suspects.{AreOutcomes, passes, plan_entry_of, ran}
use Rattle.hack_session.proofs.SuspectLemmas.{no-entry, other-entry, outcome-pushed}
use Rattle.hack_session.proofs.suspects.add_outcome.Goals as goal

pub returns-in_default : goal.returns-in_default
returns-in_default c = λ before came.
    let none : plan_entry_of c.args.plan.now c.args.handed.step ≡ None = search rules in
    passes c.args.handed came (no-entry c.args.plan.now c.args.handed c.args.part none)

pub returns-then-not-is_in : goal.returns-then-not-is_in
returns-then-not-is_in c = λ before came.
    passes c.args.handed came (other-entry c.args.plan.now c.args.handed c.in-Some.entry c.args.part (sym c.entry_of.ensures ∙ c.in-Some.is) c.if-not-is_in.ensures)

pub returns : goal.returns
returns c = λ before came.
    subst (λ o. AreOutcomes c.args.plan.now c.args.part (before ++ c.args.handed ∷ []) o)
    (sym (outcome-pushed c.args.plan.now c.args.part c.in-Some.entry c.args.handed.outcome c.args.outcomes.now.items c.push.new.self.items _ c.in_ok-push.ensures.items (c.in_ok-on.ensures.items ∙ c.settings_at.ensures) c.is_failed-failed.ensures))
    (ran c.args.handed c.in-Some.entry came (sym c.entry_of.ensures ∙ c.in-Some.is) c.if-not-is_in.ensures)
