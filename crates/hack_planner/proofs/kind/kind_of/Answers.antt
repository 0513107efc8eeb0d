use Rattle.std.proofs.Common.{◌∙◌, List, sym, ap, subst}
use Rattle.hack_metadata.specs.RecordViews.{package_view}
use Rattle.hack_planner.specs.PackageRules.{PackageRulesRecord, rules_in}
use Rattle.hack_features.specs.Feature.{groups_of}
use Rattle.hack_plan.specs.Runs.{PackageRun}
use Rattle.hack_plan.specs.RunsView.{runs_in}
use Rattle.hack_samples.specs.Sets.{rows_of}
use Rattle.hack_planner.specs.Kinds.{AreCovering, AreRunSettings, package_choice}
use Rattle.hack_planner.specs.KindsView.{IsKind, runs_of}
use Rattle.hack_planner.proofs.KindLemmas.{made-covering, made-kind, made-runs}
use Rattle.hack_planner.proofs.kind.kind_of.Goals as goal

pub found_among-requires-clause-candidates : goal.found_among-requires-clause-candidates
found_among-requires-clause-candidates c = ap groups_of c.deref.ensures.value ∙ c.in_ok-candidates.ensures

pub returns-in-Ok-clause-kind : goal.returns-in-Ok-clause-kind
returns-in-Ok-clause-kind c =
    let w : PackageRulesRecord = (rules_in c.args.asked.now) in
    let p = package_view c.args.pkg.now in
    let f = c.args.features.now in
    let found = c.in-Ok.found in
    subst (IsKind w p f) (sym c.kind_from-kind.ensures) (made-kind w p f found.is_plain c.in_ok-candidates.candidates found.runs (rows_of found.settings.items) c.in_ok-candidates.ensures (rw c.in-Ok.is at c.in_ok-found.ensures.made))

pub returns-in-Ok-clause-covered : goal.returns-in-Ok-clause-covered
returns-in-Ok-clause-covered c = λ powerset all.
    let w : PackageRulesRecord = (rules_in c.args.asked.now) in
    let p = package_view c.args.pkg.now in
    let f = c.args.features.now in
    let found = c.in-Ok.found in
    let h = rw c.in-Ok.is at c.in_ok-found.ensures.made in
    let same = ap runs_of c.kind_from-kind.ensures ∙ made-runs w f h.sets w.feature_powerset found.is_plain c.in_ok-candidates.candidates found.runs h.made in
    subst (AreCovering w p f) (sym same) (made-covering w p f found.is_plain (runs_in found.runs) (rows_of found.settings.items) h powerset all)

pub returns-in-Ok-clause-settings : goal.returns-in-Ok-clause-settings
returns-in-Ok-clause-settings c =
    let w : PackageRulesRecord = (rules_in c.args.asked.now) in
    let p = package_view c.args.pkg.now in
    let f = c.args.features.now in
    let found = c.in-Ok.found in
    let h = rw c.in-Ok.is at c.in_ok-found.ensures.made in
    let same = ap runs_of c.kind_from-kind.ensures ∙ made-runs w f h.sets w.feature_powerset found.is_plain c.in_ok-candidates.candidates found.runs h.made in
    subst (λ (runs : List PackageRun). AreRunSettings w.strength (package_choice w p f) runs (rows_of found.settings.items)) (sym same) h.settings
