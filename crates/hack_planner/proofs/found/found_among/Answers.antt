use Rattle.std.proofs.Common.{◌≡◌, ◌∙◌, length, true, false, is_some, sym, ap, subst}
use Rattle.std.proofs.lemmas.Result.{err_from_is_err_and}
use Rattle.hack_metadata.specs.RecordViews.{package_view}
use Rattle.hack_planner.specs.PackageRules.{PackageRulesRecord, rules_in}
use Rattle.hack_features.specs.Feature.{candidates_of}
use Rattle.hack_features.specs.Rules.{Choice}
use Rattle.hack_features.specs.View.{choice_of, size_of}
use Rattle.hack_features.proofs.CandidateLemmas.{length-candidates_of}
use Rattle.hack_plan.specs.RunsView.{runs_in}
use Rattle.hack_samples.specs.Sets.{rows_of}
use Rattle.hack_planner.specs.Candidates.{candidates}
use Rattle.hack_planner.specs.InternalLeastPlaces.{GivesAtLeast}
use Rattle.hack_planner.specs.Kinds as kinds
use Rattle.hack_planner.proofs.KindLemmas.{made-for}
use Rattle.hack_planner.proofs.LeastLemmas.{runs-at_least}
use Rattle.hack_planner.proofs.SampleLemmas.{tired}
use Rattle.hack_planner.proofs.found.found_among.Goals.{else-not-asked-via-then-not-asked+else-is_none, else-not-asked-via-else-not-asked}
use Rattle.hack_planner.proofs.found.found_among.Goals as goal

pub returns-clause-made : goal.returns-clause-made
returns-clause-made c =
    let r = c.too_many.new.rules in
    let w : PackageRulesRecord = (rules_in c.args.asked.now) in
    let p = package_view c.args.pkg.now in
    let f = c.args.features.now in
    let made = c.in_ok-by_rules-in-None.field-0 in
    let found = ap candidates_of c.as_slice.ensures.value ∙ c.in_ok-all.ensures ∙ c.requires.candidates in
    let same : choice_of r ≡ kinds.package_choice w p f = c.in_ok-least.ensures.same.choice ∙ c.in_ok-rules.ensures.choice ∙ ap (kinds.choice_among w p) found in
    let size : size_of r ≡ length (candidates w f) = c.in_ok-least.ensures.same.size ∙ c.in_ok-rules.ensures.size ∙ sym (length-candidates_of c.as_slice.result.now) ∙ ap length found in
    made-for w f (choice_of r) (kinds.package_choice w p f) (size_of r) (length (candidates w f)) (runs_in made.runs) made.is_plain (rows_of made.settings.items) same size c.in_ok-by_rules-in-None.ensures.made

pub returns-in-Some-clause-over : goal.returns-in-Some-clause-over
returns-in-Some-clause-over c =
    let r = c.in_ok-rules.rules in
    let w : PackageRulesRecord = (rules_in c.args.asked.now) in
    let p = package_view c.args.pkg.now in
    let f = c.args.features.now in
    let least = c.in-Some.least in
    let found = ap candidates_of c.as_slice.ensures.value ∙ c.in_ok-all.ensures ∙ c.requires.candidates in
    let same : choice_of r ≡ kinds.package_choice w p f = c.in_ok-rules.ensures.choice ∙ ap (kinds.choice_among w p) found in
    let size : size_of r ≡ length (candidates w f) = c.in_ok-rules.ensures.size ∙ sym (length-candidates_of c.as_slice.result.now) ∙ ap length found in
    let h = rw c.in-Some.is at c.in_ok-least.ensures.over in
    let powerset : w.feature_powerset ≡ true =
    elim c.else-not-asked.branch [
      | else-not-asked-via-then-not-asked+else-is_none v ↦ let e : false ≡ true = sym (ap is_some h.0) ∙ v.if-is_none.ensures in absurd (cc)
      | else-not-asked-via-else-not-asked v ↦ v.if-not-asked.false
    ] in
    let gives = subst (λ (q : Choice). GivesAtLeast w q (length (candidates w f)) least) same (subst (λ n. GivesAtLeast w (choice_of r) n least) size h.1) in
    (runs-at_least w p f least powerset h.0 gives, h.2)

pub returns-in_err-by_rules-in-None-clause-err : goal.returns-in_err-by_rules-in-None-clause-err
returns-in_err-by_rules-in-None-clause-err c =
    let w : PackageRulesRecord = (rules_in c.args.asked.now) in
    let p = package_view c.args.pkg.now in
    let f = c.args.features.now in
    let found = ap candidates_of c.as_slice.ensures.value ∙ c.in_ok-all.ensures ∙ c.requires.candidates in
    let same = c.in_ok-least.ensures.same.choice ∙ c.in_ok-rules.ensures.choice ∙ ap (kinds.choice_among w p) found in
    let e = err_from_is_err_and c.from_residual-in_err-by_rules-in-None.result c.from_residual-in_err-by_rules-in-None.ensures.1 in
    rw (e.1, e.2) (tired w p f c.by_rules.new.rules _ (c.by_rules.ensures.same_choice ∙ same) c.in_err-by_rules-in-None.ensures.err)
