use Rattle.std.proofs.Common.{◌≡◌, ◌⊎◌, Some, is_some, ap}
use Rattle.hack_planner.specs.PackageRules.{PackageRulesRecord, rules_in}
use Rattle.hack_features.specs.Samples.{IsSample, CoversPatterns, IsLean}
use Rattle.hack_sets.specs.Forest.{sets_in}
use Rattle.hack_sets.specs.declared.forest.FeatureSets.{FeatureSets}
use Rattle.hack_features.specs.View.{choice_of, size_of, questions_asked}
use Rattle.hack_planner.specs.Internal.{IsGivenUp, IsRefused}
use Rattle.hack_planner.specs.declared.fault.RunsFault.TheVariants.{Memory}
use Rattle.hack_planner.specs.Kinds as kinds
use Rattle.hack_planner.proofs.SampleLemmas.{ok-both, err-weaker, refused, sets-by}
use Rattle.hack_planner.proofs.found.sets_of.Goals as goal

pub returns-in-Some-clause-sets : goal.returns-in-Some-clause-sets
returns-in-Some-clause-sets c =
    let r = c.args.rules.now in
    let w : PackageRulesRecord = (rules_in c.args.asked.now) in
    let t = c.in-Some.strength in
    let sampled : FeatureSets → Type 0 = λ sets. IsSample (choice_of r) (size_of r) (sets_in sets) in
    let shown : FeatureSets → Type 0 = λ sets. CoversPatterns (choice_of r) (size_of r) t (sets_in sets) in
    ok-both c.sample_of.result (λ sets. sampled sets × shown sets) (λ sets. IsLean (choice_of r) t (sets_in sets)) (λ sets. kinds.AreSetsBy w.feature_powerset w.strength (choice_of r) (size_of r) (sets_in sets))
    (λ sets two lean. sets-by w.feature_powerset w.strength (Some t) (choice_of r) (size_of r) (sets_in sets) c.if-not-asked.false c.in-Some.is (two.0, two.1, lean))
    (ok-both c.sample_of.result sampled shown (λ sets. sampled sets × shown sets) (λ sets p q. (p, q)) c.sample_of.ensures.sample c.sample_of.ensures.covers)
    c.sample_of.ensures.lean

pub returns-in-Some-clause-err : goal.returns-in-Some-clause-err
returns-in-Some-clause-err c =
    let w : PackageRulesRecord = (rules_in c.args.asked.now) in
    err-weaker c.sample_of.result (IsGivenUp (questions_asked c.sample_of.new.rules)) (λ e. (e ≡ Memory) ⊎ IsRefused w (questions_asked c.sample_of.new.rules) e)
    (λ e up. refused w (questions_asked c.sample_of.new.rules) e c.if-not-asked.false (ap is_some c.in-Some.is) up)
    c.sample_of.ensures.given_up

pub returns-in_ok-found-in-None-clause-sets : goal.returns-in_ok-found-in-None-clause-sets
returns-in_ok-found-in-None-clause-sets c =
    let r = c.args.rules.now in
    let w : PackageRulesRecord = (rules_in c.args.asked.now) in
    sets-by w.feature_powerset w.strength _ (choice_of r) (size_of r) (sets_in c.in_ok-found-in-None.found.sets) c.if-not-asked.false c.in-None.is c.in_ok-found-in-None.ensures.sets
