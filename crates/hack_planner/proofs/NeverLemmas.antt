-- Where there is a plan, no cause holds: what a cause claims of some choice, input and runs, it
-- would claim of the plan's own.
use Rattle.std.proofs.Common.{◌≡◌, subst, List, ℕ, Option, Some, None, Ok, String, Global}
use Rattle.std.proofs.lemmas.Result.{MatchResult-at_ok}
use Rattle.std.specs.List.{AllZip}
use Rattle.hack_load.specs.Contexts.{ContextRecord}
use Rattle.hack_planner.specs.ContextMembers.{AreChosen, IsChoiceFault}
use Rattle.hack_planner.specs.declared.fault.PackagesFault.{PackagesFault}
use Rattle.hack_plan.specs.Entries.{HasTooMany}
use Rattle.hack_plan.specs.Inputs.{IsVersionsFault}
use Rattle.hack_plan.specs.declared.versions.PlanInput.{PlanInput}
use Rattle.hack_plan.specs.View.{PackageView}
use Rattle.hack_versions.specs.declared.rustup.RangeFault.{RangeFault}
use Rattle.hack_versions.specs.declared.version.Version.{Version}
use Rattle.hack_versions.specs.declared.version.VersionFault.{VersionFault}
use Rattle.hack_planner.specs.Calls.{HasBadOwn, IsInputOf, IsPackageOf, table_fault}
use Rattle.hack_planner.specs.RulesFor.{TableFault}
use Rattle.hack_planner.specs.CallPlan.{IsSureCause, IsSureCauseOf, latest_of, run_counts}
use Rattle.hack_planner.specs.declared.fault.PlanFault.{PlanFault}
use Rattle.hack_planner.specs.declared.fault.PlanFault.TheVariants as fault
use Rattle.hack_planner.specs.declared.stable.Stable.{Stable}
use Rattle.hack_planner.proofs.OnceLemmas.{chosen-once, counts-once, inputs-agree, packages-same}
use Rattle.hack_planner.proofs.InputLemmas.{fault-same, many-same}

-- a call whose parts are all accepted
pub record IsSound (cx : ContextRecord) (latest : Option Version) : Type 0 where
  pub ids : List ℕ
  pub input : PlanInput
  pub packages : List PackageView
  pub chosen : AreChosen cx ids
  pub of_call : IsInputOf cx ids input
  pub each : AllZip (IsPackageOf cx input latest) ids packages
  pub known : (e : PackagesFault) → ¬ IsChoiceFault cx e
  pub tables : table_fault cx ids ≡ None
  pub readable : (e : VersionFault) → ¬ HasBadOwn cx ids e
  pub in_range : (e : RangeFault) → ¬ IsVersionsFault input.range input latest e
  pub fits : ¬ HasTooMany input (run_counts packages) latest

no-fault : (cx : ContextRecord) (fault : TableFault) (ids others : List ℕ) → AreChosen cx ids → AreChosen cx others → table_fault cx ids ≡ Some fault → table_fault cx others ≡ None → ⊥
no-fault cx fault ids others chosen also bad fine =
    let e : table_fault cx ids ≡ None = subst (λ l. table_fault cx l ≡ None) (chosen-once cx others ids also chosen) fine in
    absurd (cc)

-- then no sure cause holds
pub no-cause : (cx : ContextRecord) (latest : Option Version) → IsSound cx latest → (e : PlanFault) → ¬ IsSureCause cx latest e
no-cause cx latest h fault.Memory bad = bad
no-cause cx latest h (fault.Stable text) bad = bad
no-cause cx latest h (fault.Packages e) bad = h.known e bad
no-cause cx latest h (fault.PackageRules field name) bad = no-fault cx _ bad.0 h.ids bad.1 h.chosen bad.2 h.tables
no-cause cx latest h (fault.WorkspaceRules field) bad = no-fault cx _ bad.0 h.ids bad.1 h.chosen bad.2 h.tables
no-cause cx latest h (fault.ExcludedInGroup feature name) bad = no-fault cx _ bad.0 h.ids bad.1 h.chosen bad.2 h.tables
no-cause cx latest h (fault.Version e) bad = h.readable e (subst (λ ids. HasBadOwn cx ids e) (chosen-once cx bad.ids h.ids bad.chosen h.chosen) bad.bad)
no-cause cx latest h (fault.Range e) bad =
    let ids = chosen-once cx bad.ids h.ids bad.chosen h.chosen in
    let agree = inputs-agree cx h.ids bad.input h.input (subst (λ l. IsInputOf cx l bad.input) ids bad.of_call) h.of_call in
    h.in_range e (fault-same bad.input h.input agree latest e bad.bad)
no-cause cx latest h (fault.TooManyQuestions name tally) bad = bad
no-cause cx latest h fault.TooManyRuns both =
    let bad = both.1 in
    let ids = chosen-once cx bad.ids h.ids bad.chosen h.chosen in
    let agree = inputs-agree cx h.ids bad.input h.input (subst (λ l. IsInputOf cx l bad.input) ids bad.of_call) h.of_call in
    let back = inputs-agree cx h.ids h.input bad.input h.of_call (subst (λ l. IsInputOf cx l bad.input) ids bad.of_call) in
    let each = packages-same cx bad.input h.input latest agree back h.ids bad.packages (subst (λ l. AllZip (IsPackageOf cx bad.input latest) l bad.packages) ids bad.each) in
    let counts = counts-once cx both.0 h.input latest h.ids bad.packages h.packages each h.each in
    h.fits (subst (λ ns. HasTooMany h.input ns latest) counts (many-same bad.input h.input agree (run_counts bad.packages) latest bad.many))

-- a sure cause, given what is known of `stable`, is one where this is the version to plan with
pub cause-by : (subcommand : Option (String Global)) (stable : Stable) (latest : Option Version) (cx : ContextRecord) (e : PlanFault) → latest_of stable ≡ Ok latest → IsSureCauseOf subcommand stable cx e → IsSureCause cx latest e
cause-by None stable latest cx e is bad = absurd bad
cause-by (Some name) stable latest cx e is bad = MatchResult-at_ok (λ v. IsSureCause cx v e) (λ unknown. e ≡ unknown) latest is bad
