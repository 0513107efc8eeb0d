use Rattle.std.proofs.Common.{◌∙◌, ap, inr}
use Rattle.std.proofs.lemmas.Result.{IfErr-weaker, IfOk-weaker}
use Rattle.std.specs.Prelude.{true, false}
use Rattle.hack_metadata.specs.RecordViews.{package_view}
use Rattle.hack_planner.specs.PackageRules.{rules_in}
use Rattle.hack_planner.specs.Kinds.{choice_among}
use Rattle.hack_hunt.specs.Hunts.{ends_of}
use Rattle.hack_hunt.proofs.RuleLemmas.{own_plain}
use Rattle.hack_hunt.proofs.one.hunt_rules.Goals as goal

pub returns-then-plain-clause-hunted : goal.returns-then-plain-clause-hunted
returns-then-plain-clause-hunted g c =
    let r = rules_in c.args.asked.now in
    let p = package_view c.args.pkg.now in
    let f = c.args.features.now in
    let choice = c.in_ok-rules.ensures.choice ∙ ap (choice_among r p) (rw c.as_slice.ensures.value (c.in_ok-all.ensures ∙ c.requires.known)) in
    let ends = c.ends_for-ends.ensures ∙ ap (ends_of r f) c.if-plain.true in
    IfOk-weaker c.hunt_plain.result _ _ (λ hunted h. (true, own_plain r p f _ choice _ true c.in_ok-plain.ensures c.if-plain.true, rw (← ends) h)) (c.hunt_plain.ensures.hunted f)

pub returns-then-plain-clause-fault : goal.returns-then-plain-clause-fault
returns-then-plain-clause-fault g c =
    let r = rules_in c.args.asked.now in
    let p = package_view c.args.pkg.now in
    let f = c.args.features.now in
    let choice = c.in_ok-rules.ensures.choice ∙ ap (choice_among r p) (rw c.as_slice.ensures.value (c.in_ok-all.ensures ∙ c.requires.known)) in
    let ends = c.ends_for-ends.ensures ∙ ap (ends_of r f) c.if-plain.true in
    IfErr-weaker c.hunt_plain.result _ _ (λ why h. inr (true, own_plain r p f _ choice _ true c.in_ok-plain.ensures c.if-plain.true, rw (← ends) h)) (c.hunt_plain.ensures.fault f)

pub returns-clause-hunted : goal.returns-clause-hunted
returns-clause-hunted g c =
    let r = rules_in c.args.asked.now in
    let p = package_view c.args.pkg.now in
    let f = c.args.features.now in
    let choice = c.in_ok-rules.ensures.choice ∙ ap (choice_among r p) (rw c.as_slice.ensures.value (c.in_ok-all.ensures ∙ c.requires.known)) in
    let ends = c.ends_for-ends.ensures ∙ ap (ends_of r f) c.if-plain.false in
    IfOk-weaker c.hunt_among.result _ _ (λ hunted h. (false, own_plain r p f _ choice _ false c.in_ok-plain.ensures c.if-plain.false, rw (← ends, ← choice) h)) c.hunt_among.ensures.hunted

pub returns-clause-fault : goal.returns-clause-fault
returns-clause-fault g c =
    let r = rules_in c.args.asked.now in
    let p = package_view c.args.pkg.now in
    let f = c.args.features.now in
    let choice = c.in_ok-rules.ensures.choice ∙ ap (choice_among r p) (rw c.as_slice.ensures.value (c.in_ok-all.ensures ∙ c.requires.known)) in
    let ends = c.ends_for-ends.ensures ∙ ap (ends_of r f) c.if-plain.false in
    IfErr-weaker c.hunt_among.result _ _ (λ why h. inr (false, own_plain r p f _ choice _ false c.in_ok-plain.ensures c.if-plain.false, rw (← ends, ← choice) h)) c.hunt_among.ensures.fault
