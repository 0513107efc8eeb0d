-- The plan of a call, and the causes to refuse it.
use Rattle.std.specs.Prelude.{ℕ, ◌≡◌, ◌<◌, ◌^◌, ◌++◌, List, [], map, length, string_bytes, Bool, Option, Some, None, Result, Ok, Err, IsOkAnd, MatchResult}
use Rattle.std.specs.declared.string.String.{String}
use Rattle.std.specs.declared.alloc.Global.{Global}
use Rattle.std.specs.List.{AllZip, flat_map}
use Rattle.hack_base.specs.Names.{Name}
use Rattle.hack_features.specs.declared.tally.Tally.{Tally}
use Rattle.hack_load.specs.Contexts.{ContextRecord, package_at, features_at}
use Rattle.hack_load.specs.declared.features.Features.{Features}
use Rattle.hack_metadata.specs.Records.{PackageRecord}
use Rattle.hack_planner.specs.ContextMembers.{AreChosen, IsChoiceFault}
use Rattle.hack_versions.specs.declared.version.Version.{Version}
use Rattle.hack_versions.specs.declared.version.VersionFault.{VersionFault}
use Rattle.hack_versions.specs.declared.rustup.RangeFault.{RangeFault}
use Rattle.hack_base.specs.Notes.{Note}
use Rattle.hack_plan.specs.Entries.{ArePlaces, HasTooMany}
use Rattle.hack_plan.specs.Inputs.{AreVersions, AreNotices, IsVersionsFault}
use Rattle.hack_plan.specs.Spans.{AreSpans, AreTiled, versions_of}
use Rattle.hack_plan.specs.declared.versions.PlanInput.{PlanInput}
use Rattle.hack_versions.specs.declared.group.VersionGroup.{VersionGroup}
use Rattle.hack_planner.specs.Calls.{AreFirstNotes, IsInputOf, IsPackageOf, IsCoveredIn, IsUsed, HasBadOwn, HasNoSample, call_of, candidate_notes_at, left_out_notes, rules_at, table_fault, HasTableFault}
use Rattle.hack_planner.specs.RulesFor.{OwnField, WorkspaceField, Grouped}
use Rattle.hack_plan.specs.Prepared.{ArePrepared, span_of}
use Rattle.hack_plan.specs.View.{PackageView, PlanView}
use Rattle.hack_planner.specs.declared.fault.PlanFault.{PlanFault}
use Rattle.hack_planner.specs.declared.fault.PlanFault.TheVariants as fault
use Rattle.hack_planner.specs.declared.stable.Stable.{Stable}
use Rattle.hack_planner.specs.declared.stable.Stable.TheVariants.{Unasked, Known, Unknown}

-- the number of runs of each package
abbrev pub run_counts : List PackageView → List ℕ
run_counts packages = map (λ k. length k.runs) packages

-- a plan has exactly the chosen packages, each with its texts, its candidates and its runs, or a plain
-- run where it uses no version; and its places are exactly the admissible runs, in order, where `stable` is this version
pub record HasJustRuns (cx : ContextRecord) (latest : Option Version) (plan : PlanView) : Type 0 where
  pub ids : List ℕ
  pub input : PlanInput
  pub chosen : AreChosen cx ids
  pub of_call : IsInputOf cx ids input
  pub packages : AllZip (IsPackageOf cx input latest) ids plan.packages
  pub places : ArePlaces input (run_counts plan.packages) latest plan.entries

-- what the calls and the notices of a call with a subcommand depend on, where `stable` is this
-- version: its places are just the admissible runs, at most 4294967295; each version has its places
-- and its preparations; what its commands are made from; its notices, in order; and neither a table
-- nor the range is refused
pub record IsPerformable (cx : ContextRecord) (rustup : Name) (latest : Option Version)
    (plan : PlanView) (notes : List Note) : Type 0 where
  pub base : HasJustRuns cx latest plan
  pub groups : List VersionGroup
  pub single : Bool
  pub on_packages : List Note
  pub on_range : List Note
  pub noted : AreFirstNotes cx single on_packages
  pub of_range : AreVersions base.input.range base.input latest groups
  pub ranged : AreNotices base.input.range base.input latest on_range
  pub call : plan.call ≡ call_of cx rustup
  pub laid : AreSpans (versions_of base.input.range groups) plan.entries (map span_of plan.versions)
  pub prepared : ArePrepared cx.args.locked cx.args.clean_per_version plan.versions
  pub told : notes ≡ on_packages ++ (flat_map (candidate_notes_at cx single) base.ids
      ++ (on_range ++ left_out_notes cx base.ids base.input groups))
  pub tables : table_fault cx base.ids ≡ None
  pub in_range : (e : RangeFault) → ¬ IsVersionsFault base.input.range base.input latest e
  pub fits : length plan.entries < 2 ^ 32

-- the plan of a call with a subcommand, where `stable` is this version: what its calls and notices
-- depend on, the coverage of each package's runs, and that the places of the versions partition the
-- plan's, that every own version can be read and that there aren't too many runs
pub record IsPlan (cx : ContextRecord) (rustup : Name) (latest : Option Version) (plan : PlanView)
    (notes : List Note) : Type 0 where
  pub performed : IsPerformable cx rustup latest plan notes
  pub covered : AllZip (IsCoveredIn cx performed.base.input latest) performed.base.ids plan.packages
  pub tiled : AreTiled 0 (map span_of plan.versions) (length plan.entries)
  pub readable : (e : VersionFault) → ¬ HasBadOwn cx performed.base.ids e
  pub fits : ¬ HasTooMany performed.base.input (run_counts plan.packages) latest

-- the version to plan with, given what is known of `stable`: none where it wasn't asked for; or why there is no plan
abbrev pub latest_of : Stable → Result (Option Version) PlanFault
latest_of Unasked = Ok None
latest_of (Known v) = Ok (Some v)
latest_of (Unknown text) = Err (fault.Stable text)

-- what the calls and the notices of a call depend on, given what is known of `stable`: a plan without
-- a version where there is no subcommand
abbrev pub IsPerformableOf : Option (String Global) → Stable → ContextRecord → Name → PlanView → List Note → Type 0
IsPerformableOf None stable cx rustup plan notes =
    (plan ≡ record { call = call_of cx rustup; packages = []; versions = []; entries = [] })
    × (notes ≡ [])
IsPerformableOf (Some subcommand) stable cx rustup plan notes = IsOkAnd (latest_of stable) (λ latest. IsPerformable cx rustup latest plan notes)

-- the plan of a call, given what is known of `stable`
abbrev pub IsPlanOf : Option (String Global) → Stable → ContextRecord → Name → PlanView → List Note → Type 0
IsPlanOf None stable cx rustup plan notes = IsPerformableOf None stable cx rustup plan notes
IsPlanOf (Some subcommand) stable cx rustup plan notes = IsOkAnd (latest_of stable) (λ latest. IsPlan cx rustup latest plan notes)

-- the places of a call's plan, given what is known of `stable`: none without a subcommand, else just the admissible runs;
-- where stable's version is unknown there is no plan
abbrev pub HasRunsOf : Option (String Global) → Stable → ContextRecord → PlanView → Type 0
HasRunsOf None stable cx plan = plan.entries ≡ []
HasRunsOf (Some subcommand) stable cx plan = IsOkAnd (latest_of stable) (λ latest. HasJustRuns cx latest plan)

-- the own version of one of the chosen packages can't be read
pub record IsBadVersion (cx : ContextRecord) (e : VersionFault) : Type 0 where
  pub ids : List ℕ
  pub chosen : AreChosen cx ids
  pub tables : table_fault cx ids ≡ None
  pub bad : HasBadOwn cx ids e

-- the range is refused for the chosen packages
pub record IsBadRange (cx : ContextRecord) (latest : Option Version) (e : RangeFault) : Type 0 where
  pub ids : List ℕ
  pub input : PlanInput
  pub chosen : AreChosen cx ids
  pub tables : table_fault cx ids ≡ None
  pub of_call : IsInputOf cx ids input
  pub bad : IsVersionsFault input.range input latest e

-- the chosen packages have more than 4294967295 runs in all
pub record AreTooManyRuns (cx : ContextRecord) (latest : Option Version) : Type 0 where
  pub ids : List ℕ
  pub input : PlanInput
  pub packages : List PackageView
  pub chosen : AreChosen cx ids
  pub tables : table_fault cx ids ≡ None
  pub of_call : IsInputOf cx ids input
  pub each : AllZip (IsPackageOf cx input latest) ids packages
  pub many : HasTooMany input (run_counts packages) latest

-- the sample of one of the chosen packages that are used, of this name, needs too many questions: so many were asked
pub record IsTooWide (cx : ContextRecord) (latest : Option Version) (name : Name) (tally : Tally) : Type 0 where
  pub ids : List ℕ
  pub input : PlanInput
  pub chosen : AreChosen cx ids
  pub tables : table_fault cx ids ≡ None
  pub of_call : IsInputOf cx ids input
  pub wide : HasNoSample cx (IsUsed cx input latest) ids name tally

-- the causes to refuse the chosen packages: their choice, or a table of rules
abbrev pub IsPackagesCause : ContextRecord → PlanFault → Type 0
IsPackagesCause cx fault.Memory = ⊥
IsPackagesCause cx (fault.Stable text) = ⊥
IsPackagesCause cx (fault.Packages e) = IsChoiceFault cx e
IsPackagesCause cx (fault.PackageRules field name) = HasTableFault cx (OwnField (string_bytes name) (string_bytes field))
IsPackagesCause cx (fault.WorkspaceRules field) = HasTableFault cx (WorkspaceField (string_bytes field))
IsPackagesCause cx (fault.ExcludedInGroup feature name) = HasTableFault cx (Grouped (string_bytes name) (string_bytes feature))
IsPackagesCause cx (fault.Version e) = ⊥
IsPackagesCause cx (fault.Range e) = ⊥
IsPackagesCause cx (fault.TooManyQuestions name tally) = ⊥
IsPackagesCause cx fault.TooManyRuns = ⊥

-- the causes to refuse a call with a subcommand, where `stable` is this version
abbrev pub IsCause : ContextRecord → Option Version → PlanFault → Type 0
IsCause cx latest fault.Memory = ⊥
IsCause cx latest (fault.Stable text) = ⊥
IsCause cx latest (fault.Packages e) = IsChoiceFault cx e
IsCause cx latest (fault.PackageRules field name) = HasTableFault cx (OwnField (string_bytes name) (string_bytes field))
IsCause cx latest (fault.WorkspaceRules field) = HasTableFault cx (WorkspaceField (string_bytes field))
IsCause cx latest (fault.ExcludedInGroup feature name) = HasTableFault cx (Grouped (string_bytes name) (string_bytes feature))
IsCause cx latest (fault.Version e) = IsBadVersion cx e
IsCause cx latest (fault.Range e) = IsBadRange cx latest e
IsCause cx latest (fault.TooManyQuestions name tally) = IsTooWide cx latest (string_bytes name) tally
IsCause cx latest fault.TooManyRuns = AreTooManyRuns cx latest

-- no package has a strength
abbrev pub HaveNoStrength : ContextRecord → Type 0
HaveNoStrength cx = (id : ℕ) (p : PackageRecord) (f : Features)
    → package_at cx id ≡ Some p → features_at cx id ≡ Some f → (rules_at cx p f).strength ≡ None

-- the causes that leave no plan, whatever samples are found: with a strength another sample could have too many runs, or need
-- too many questions
abbrev pub IsSureCause : ContextRecord → Option Version → PlanFault → Type 0
IsSureCause cx latest fault.Memory = ⊥
IsSureCause cx latest (fault.Stable text) = ⊥
IsSureCause cx latest (fault.Packages e) = IsChoiceFault cx e
IsSureCause cx latest (fault.PackageRules field name) = HasTableFault cx (OwnField (string_bytes name) (string_bytes field))
IsSureCause cx latest (fault.WorkspaceRules field) = HasTableFault cx (WorkspaceField (string_bytes field))
IsSureCause cx latest (fault.ExcludedInGroup feature name) = HasTableFault cx (Grouped (string_bytes name) (string_bytes feature))
IsSureCause cx latest (fault.Version e) = IsBadVersion cx e
IsSureCause cx latest (fault.Range e) = IsBadRange cx latest e
IsSureCause cx latest (fault.TooManyQuestions name tally) = ⊥
IsSureCause cx latest fault.TooManyRuns = HaveNoStrength cx × AreTooManyRuns cx latest

-- the causes to refuse a call: it has a subcommand, and stable's version is unknown, or one of the causes above holds
abbrev pub IsCauseOf : Option (String Global) → Stable → ContextRecord → PlanFault → Type 0
IsCauseOf None stable cx e = ⊥
IsCauseOf (Some subcommand) stable cx e = MatchResult (latest_of stable) (λ latest. IsCause cx latest e) (λ unknown. e ≡ unknown)

-- the sure causes to refuse a call: it has a subcommand, and stable's version is unknown, or one of the sure causes above holds
abbrev pub IsSureCauseOf : Option (String Global) → Stable → ContextRecord → PlanFault → Type 0
IsSureCauseOf None stable cx e = ⊥
IsSureCauseOf (Some subcommand) stable cx e = MatchResult (latest_of stable) (λ latest. IsSureCause cx latest e) (λ unknown. e ≡ unknown)
