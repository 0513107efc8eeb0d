-- The input of a plan, from what was loaded.
use Rattle.std.specs.Prelude.{ℕ, ◌≡◌, ◌↔◌, ◌⊎◌, ◌++◌, ◌&&◌, List, [], ◌∷◌, Bool, true, false, Option, Some, None, length, Contains, IsSomeAnd, IsTrue, MatchOption, map, option_and_then, option_map, slice_get, string_bytes, if◌then◌else◌}
use Rattle.std.specs.List.{AllZip, flat_map, list_all, list_any, range_with_len}
use Rattle.std.specs.Option.{option_map_or, option_or}
use Rattle.hack_base.specs.Names.{Name, names_of}
use Rattle.hack_base.specs.PathTexts.{under_of}
use Rattle.hack_metadata.specs.Records.{PackageRecord}
use Rattle.hack_features.specs.declared.tally.Tally.{Tally}
use Rattle.hack_load.specs.Contexts.{ContextRecord, package_at, features_at, rust_version_at}
use Rattle.hack_words.specs.declared.cli.args.Args.{Args}
use Rattle.hack_load.specs.GivenFeatures.{passed_for, left_out_for}
use Rattle.hack_load.specs.declared.features.Features.{Features}
use Rattle.hack_versions.specs.declared.version.Version.{Version}
use Rattle.hack_versions.specs.declared.version.VersionFault.{VersionFault}
use Rattle.hack_versions.specs.declared.version.VersionRange.{VersionRange}
use Rattle.hack_versions.specs.declared.group.PackageVersion.{PackageVersion}
use Rattle.hack_versions.specs.declared.group.VersionGroup.{VersionGroup}
use Rattle.hack_base.specs.Notes.{Note, warning_note}
use Rattle.hack_versions.specs.VersionOrder.{strip_patch}
use Rattle.hack_versions.specs.VersionTexts.{IsVersionText, IsVersionFault}
use Rattle.hack_versions.specs.VersionUses.{UsesBy}
use Rattle.hack_rules.specs.declared.uses.behavior.WorkspaceBehavior.TheVariants.{Cargo}
use Rattle.hack_planner.specs.ContextMembers.{AreChosen, AreChoiceNotes}
use Rattle.hack_planner.specs.Candidates.{candidates, candidate_notes}
use Rattle.hack_planner.specs.Kinds.{AreRuns, AreCovering, AreRunSettings, IsUnsampled, package_choice}
use Rattle.hack_planner.specs.PackageRules.{PackageRulesRecord, call_rules}
use Rattle.hack_planner.specs.RulesFor.{TableFault, first_there, grouped_fault, has_no_rule, may_have, own_fault, rules_for, table_notes, unknown_names, workspace_fault}
use Rattle.hack_planner.specs.Texts.{no_rules_text, workspace_text}
use Rattle.hack_plan.specs.Runs.{Plain}
use Rattle.hack_plan.specs.Inputs.{IsStepList, slots_of}
use Rattle.hack_plan.specs.declared.versions.PlanInput.{PlanInput}
use Rattle.hack_plan.specs.View.{CallView, PackageView}

-- the rules of a package of the call
abbrev pub rules_at : ContextRecord → PackageRecord → Features → PackageRulesRecord
rules_at cx p f = rules_for cx.args cx.metadata.rules p f

-- the fault that the rules of a package of the call exclude a feature of a group
abbrev pub grouped_at : ContextRecord → PackageRecord → Features → Option TableFault
grouped_at cx p f = grouped_fault (names_of cx.args.features.items) p.name (rules_at cx p f)

-- the fault of a package's own table, else that of its rules
abbrev pub own_fault_at : ContextRecord → ℕ → Option TableFault
own_fault_at cx id = option_and_then
    (λ p. option_or (own_fault p) (option_and_then (grouped_at cx p) (features_at cx id)))
    (package_at cx id)

-- what is wrong with the tables of a call under `--package-rules`: with the workspace's, else with
-- the rules of the first of these packages
abbrev pub table_fault : ContextRecord → List ℕ → Option TableFault
table_fault cx ids = if cx.args.package_rules
    then first_there (workspace_fault cx.metadata.rules ∷ map (own_fault_at cx) ids)
    else None

-- this is wrong with the tables of the call
abbrev pub HasTableFault : ContextRecord → TableFault → Type 0
HasTableFault cx fault = (ids : List ℕ) × AreChosen cx ids × (table_fault cx ids ≡ Some fault)

-- a member may have the name
abbrev pub member_may_have : ContextRecord → Name → Bool
member_may_have cx x = list_any (λ id. option_map_or (λ f. may_have cx.args.include_deps_features f x) (features_at cx id) false)
    cx.metadata.workspace_members

-- neither the workspace's table nor that of a member has a rule
abbrev pub have_no_rule : ContextRecord → Bool
have_no_rule cx = has_no_rule cx.metadata.rules
    && list_all (λ id. option_map_or (λ p. has_no_rule p.rules) (package_at cx id) true) cx.metadata.workspace_members

-- under `--package-rules` a warning where no table has a rule, else one for each name of the workspace's table that no
-- member has
abbrev pub workspace_notes : ContextRecord → List Note
workspace_notes cx = if cx.args.package_rules
    then (if have_no_rule cx then warning_note no_rules_text ∷ []
    else map (λ x. warning_note (workspace_text x)) (unknown_names (member_may_have cx) cx.metadata.rules))
    else []

-- the notices before those on the features of packages: on the choice of packages, and on the workspace's tables
pub record AreFirstNotes (cx : ContextRecord) (single : Bool) (notes : List Note) : Type 0 where
  pub on_choice : List Note
  pub of_choice : AreChoiceNotes cx single on_choice
  pub told : notes ≡ on_choice ++ workspace_notes cx

-- the path of a package's manifest as a command is given it; none where commands get none
abbrev pub given_path : Bool → Name → Option PackageRecord → Option Name
given_path hidden dir p = if hidden then None else option_map (λ k. under_of k.manifest_path dir) p

-- what all commands of the call have in common
abbrev pub call_of : ContextRecord → Name → CallView
call_of cx rustup = record {
  cargo = cx.cargo;
  rustup = rustup;
  passed = names_of cx.args.leading_args.items;
  trailing = names_of cx.args.trailing_args.items;
  features = names_of cx.args.features.items;
  targets = names_of cx.args.target.items;
  cargo_minor = cx.cargo_minor;
  locked = cx.args.locked;
  clean_per_run = cx.args.clean_per_run;
  clean_per_version = cx.args.clean_per_version;
  grows = false;
  current_manifest = given_path cx.args.no_manifest_path cx.current_dir
      (option_and_then (package_at cx) cx.current_package);
  dir = cx.current_dir;
}

-- an own version is that of its text, which is read exactly where a range of versions is given
abbrev pub IsOwn : Option VersionRange → Option Name → Option Version → Type 0
IsOwn range text own = MatchOption (option_and_then (λ _. text) range) (own ≡ None)
    (λ t. IsSomeAnd own (IsVersionText t))

-- the text isn't a version, and a range is given, so that it is read
abbrev pub IsBadOwn : Option VersionRange → Option Name → VersionFault → Type 0
IsBadOwn (Some range) (Some text) e = IsVersionFault text e
IsBadOwn range text e = ⊥

-- a chosen package, with its name and its own version
pub record IsMember (cx : ContextRecord) (id : ℕ) (member : PackageVersion) : Type 0 where
  pub name : option_map (λ p. p.name) (package_at cx id) ≡ Some (string_bytes member.name)
  pub own : IsOwn cx.args.version_range (rust_version_at cx id) member.rust_version

-- what the versions and places of a plan depend on
pub record IsInputOf (cx : ContextRecord) (ids : List ℕ) (s : PlanInput) : Type 0 where
  pub range : s.range ≡ cx.args.version_range
  pub step : s.step ≡ cx.args.version_step
  pub as_cargo : IsTrue s.as_cargo ↔ (cx.args.workspace_behavior ≡ Cargo)
  pub targets : s.targets ≡ length cx.args.target.items
  pub cargo_minor : s.cargo_minor ≡ cx.cargo_minor
  pub members : AllZip (IsMember cx) ids s.packages.items

-- a package with this text of an own version uses one of these steps, or its own version; without a range each package is used
abbrev pub UsesSome : Option VersionRange → List Version → Option Name → Type 0
UsesSome None steps text = Unit {0}
UsesSome (Some range) steps text = (own : Option Version) × (v : Version) × IsOwn (Some range) text own
    × UsesBy range.start_inclusive range.end_inclusive steps (option_map strip_patch own) v

-- the package is used: it uses a version of the call, so that the plan has places for its runs
abbrev pub IsUsed : ContextRecord → PlanInput → Option Version → ℕ → Type 0
IsUsed cx s latest id = (steps : List Version) × IsStepList s.range s latest steps × UsesSome s.range steps (rust_version_at cx id)

-- the own version of a chosen package can't be read
abbrev pub HasBadOwn : ContextRecord → List ℕ → VersionFault → Type 0
HasBadOwn cx ids e = (id : ℕ) × Contains ids id × IsBadOwn cx.args.version_range (rust_version_at cx id) e

-- a package of this name and these features has no sample, for which so many questions were asked
pub record HasNoSampleAt (cx : ContextRecord) (id : ℕ) (name : Name) (tally : Tally) : Type 0 where
  pub pkg : PackageRecord
  pub features : Features
  pub known : package_at cx id ≡ Some pkg
  pub loaded : features_at cx id ≡ Some features
  pub called : name ≡ pkg.name
  pub wide : IsUnsampled (rules_at cx pkg features) pkg features tally

-- one of the packages that are used, of this name, has no sample
abbrev pub HasNoSample : ContextRecord → (ℕ → Type 0) → List ℕ → Name → Tally → Type 0
HasNoSample cx Used ids name tally = (id : ℕ) × Contains ids id × Used id × HasNoSampleAt cx id name tally

-- a chosen package in the plan has its texts, the features of `--features` that it gets, and its
-- candidates, or none where its one run is plain; and where it is used its runs, else a plain one
pub record IsChosenPackage (cx : ContextRecord) (used : Type 0) (id : ℕ) (k : PackageView) : Type 0 where
  pub pkg : PackageRecord
  pub features : Features
  pub known : package_at cx id ≡ Some pkg
  pub loaded : features_at cx id ≡ Some features
  pub name : k.name ≡ pkg.name
  pub path : k.manifest_path ≡ given_path cx.args.no_manifest_path cx.current_dir (Some pkg)
  pub given : k.features ≡ passed_for cx (Some id)
  pub candidates : (k.candidates ≡ candidates (rules_at cx pkg features) features)
      ⊎ ((k.candidates ≡ []) × (k.runs ≡ Plain ∷ []))
  pub runs : used → AreRuns (rules_at cx pkg features) pkg features k.runs
  pub unused : ¬ used → (k.candidates ≡ []) × (k.runs ≡ Plain ∷ [])

-- under a powerset without a strength the runs of a chosen package that is used cover each set that
-- has to be covered; with a strength the plan says which candidates are on in each run
pub record HasCoverage (cx : ContextRecord) (used : Type 0) (id : ℕ) (k : PackageView) : Type 0 where
  pub pkg : PackageRecord
  pub features : Features
  pub known : package_at cx id ≡ Some pkg
  pub loaded : features_at cx id ≡ Some features
  pub covered : used → cx.args.feature_powerset ≡ true
      → (rules_at cx pkg features).strength ≡ None
      → AreCovering (rules_at cx pkg features) pkg features k.runs
  pub settings : used → AreRunSettings (rules_at cx pkg features).strength
      (package_choice (rules_at cx pkg features) pkg features) k.runs k.settings
  pub unused : ¬ used → k.settings ≡ []

-- the same, where a package is used if it uses a version of this input
abbrev pub IsPackageOf : ContextRecord → PlanInput → Option Version → ℕ → PackageView → Type 0
IsPackageOf cx s latest id k = IsChosenPackage cx (IsUsed cx s latest id) id k

abbrev pub IsCoveredIn : ContextRecord → PlanInput → Option Version → ℕ → PackageView → Type 0
IsCoveredIn cx s latest id k = HasCoverage cx (IsUsed cx s latest id) id k

-- the notices on the features of a package with these rules, and on those that its table has
abbrev pub package_notes : Args → Bool → PackageRulesRecord → PackageRecord → Features → List Note
package_notes args single r p f =
    candidate_notes single (call_rules args p.name) r p.name f ++ table_notes args p f

abbrev pub candidate_notes_at : ContextRecord → Bool → ℕ → List Note
candidate_notes_at cx single id = option_map_or
    (λ p. option_map_or (λ f. package_notes cx.args single (rules_at cx p f) p f) (features_at cx id) [])
    (package_at cx id) []

-- the notices on features that a version's packages don't get, for each slot
abbrev pub version_notes : ContextRecord → List ℕ → PlanInput → Option Version → List ℕ → List Note
version_notes cx ids s version places = flat_map (λ slot. flat_map (λ p. left_out_for cx (slice_get ids p)) places) (range_with_len 0 (slots_of s version))

-- the same for all versions of a range, or without one
abbrev pub ranged_notes : ContextRecord → List ℕ → PlanInput → List VersionGroup → Option VersionRange → List Note
ranged_notes cx ids s groups None = version_notes cx ids s None (range_with_len 0 (length ids))
ranged_notes cx ids s groups (Some range) = flat_map (λ group. version_notes cx ids s (Some group.version) group.packages.items) groups

-- these notices for each version, slot and package; none where one run is for all
abbrev pub left_out_notes : ContextRecord → List ℕ → PlanInput → List VersionGroup → List Note
left_out_notes cx ids s groups = if s.as_cargo then [] else ranged_notes cx ids s groups s.range
