-- Which runs a package has.
use Rattle.std.specs.Prelude.{◌≡◌, ◌==◌, ℕ, List, [], ◌∷◌, Bool, true, false, not, ◌||◌, Option, None, Some, length, Contains}
use Rattle.std.specs.Bool.{MatchBool}
use Rattle.std.specs.List.{AllZip}
use Rattle.std.specs.Option.{option_map_or}
use Rattle.hack_sets.specs.Sets.{IsListing, IsSelection, singles}
use Rattle.hack_base.specs.Names.{Name}
use Rattle.hack_features.specs.Rules.{Choice, IsListed, IsWanted, Covers}
use Rattle.hack_features.specs.Samples.{IsSample, CoversPatterns, IsLean}
use Rattle.hack_features.specs.Settings.{AreSettings, AreSettingsOfAll}
use Rattle.hack_features.specs.View as rules
use Rattle.hack_features.specs.declared.rules.Rules.{Rules}
use Rattle.hack_features.specs.declared.tally.Tally.{Tally}
use Rattle.hack_load.specs.declared.features.Features.{Features}
use Rattle.hack_metadata.specs.Records.{PackageRecord}
use Rattle.hack_plan.specs.declared.runs.RunOptions.{RunOptions}
use Rattle.hack_plan.specs.Runs.{PackageRun, Plain, AllFeatures, Set, is_plain, runs_from}
use Rattle.hack_planner.specs.Candidates.{candidates}
use Rattle.hack_planner.specs.PackageRules.{PackageRulesRecord}

-- sets of these candidates of a package are chosen so
abbrev pub choice_among : PackageRulesRecord → PackageRecord → List (List Name) → Choice
choice_among r p names = record {
  map = p.features;
  candidates = names;
  depth = r.depth;
  at_least_one_of = r.at_least_one_of;
  exclusive = r.exclusive;
}

-- what the sets of a package are chosen from
abbrev pub package_choice : PackageRulesRecord → PackageRecord → Features → Choice
package_choice r p f = choice_among r p (candidates r f)

-- the options that decide, together with its sets, which runs a package has
abbrev pub options_of : PackageRulesRecord → Features → RunOptions
options_of r f = record {
  powerset = r.feature_powerset;
  depth = r.depth;
  normal = length f.normal.items;
  optional = length f.optional_deps.items;
  all_optional_deps = option_map_or (λ asked. length asked == 0) r.optional_deps false;
  included = not (length r.include_features == 0);
  exclude_all_features = r.exclude_all_features;
  exclude_no_default_features = r.exclude_no_default_features;
}

-- the sets of a powerset: all that are listed, or with a strength a sample of them, which shows
-- each pattern of at most that many candidates that some listed set shows, and needs each of its sets
abbrev pub ArePowersets : Option ℕ → Choice → ℕ → List (List ℕ) → Type 0
ArePowersets None c n sets = IsListing n (IsListed c) sets
ArePowersets (Some strength) c n sets = IsSample c n sets × CoversPatterns c n strength sets × IsLean c strength sets

-- the sets of a choice of n candidates: under a powerset those that are listed or a sample of them, else each candidate alone
abbrev pub AreSetsBy : Bool → Option ℕ → Choice → ℕ → List (List ℕ) → Type 0
AreSetsBy true strength c n sets = ArePowersets strength c n sets
AreSetsBy false strength c n sets = sets ≡ singles n

-- the sets of a package
abbrev pub AreSets : Bool → PackageRulesRecord → PackageRecord → Features → List (List ℕ) → Type 0
AreSets powerset r p f sets =
    AreSetsBy powerset r.strength (package_choice r p f) (length (candidates r f)) sets

-- the runs are those of the package's sets
pub record AreSetRuns (r : PackageRulesRecord) (p : PackageRecord) (f : Features) (runs : List PackageRun)
    : Type 0 where
  pub sets : List (List ℕ)
  pub are_sets : AreSets r.feature_powerset r p f sets
  pub made : runs ≡ runs_from (options_of r f) sets

-- the runs are those of the package's sets, and not a single plain run because there is no set
pub record HasSetRuns (r : PackageRulesRecord) (p : PackageRecord) (f : Features) (runs : List PackageRun)
    : Type 0 where
  pub sets : List (List ℕ)
  pub are_sets : AreSets r.feature_powerset r p f sets
  pub made : runs ≡ runs_from (options_of r f) sets
  pub some : is_plain (options_of r f) sets ≡ false

-- the runs of a package, by rank: those of its sets if the call asks for combinations of features,
-- else a plain one
abbrev pub AreRuns : PackageRulesRecord → PackageRecord → Features → List PackageRun → Type 0
AreRuns r p f runs = MatchBool (r.each_feature || r.feature_powerset)
    (AreSetRuns r p f runs) (runs ≡ Plain ∷ [])

-- the package has only a plain run: no combinations are asked for, or its sets give a plain run
pub record HasPlainRun (r : PackageRulesRecord) (p : PackageRecord) (f : Features) : Type 0 where
  pub sets : List (List ℕ)
  pub are_sets : (r.each_feature || r.feature_powerset) ≡ true
      → AreSets r.feature_powerset r p f sets
  pub plain : (r.each_feature || r.feature_powerset) ≡ true
      → is_plain (options_of r f) sets ≡ true

-- each set that has to be covered has a run whose set lies in it and enables the same names
abbrev pub AreCovering : PackageRulesRecord → PackageRecord → Features → List PackageRun → Type 0
AreCovering r p f runs = (s : List ℕ) → IsSelection (length (candidates r f)) s
    → IsWanted (package_choice r p f) s
    → (t : List ℕ) × Covers (package_choice r p f) s t × Contains runs (Set t)

-- the row says which candidates are on in a run; a plain run counts as one with the empty set
abbrev pub IsRowOf : Choice → PackageRun → List Bool → Type 0
IsRowOf c AllFeatures row = AreSettingsOfAll c row
IsRowOf c (Set s) row = AreSettings c s row
IsRowOf c run row = AreSettings c [] row

-- with a strength there is a row for each run, else none
abbrev pub AreRunSettings : Option ℕ → Choice → List PackageRun → List (List Bool) → Type 0
AreRunSettings None c runs rows = rows ≡ []
AreRunSettings (Some strength) c runs rows = AllZip (IsRowOf c) runs rows

-- how many questions are asked at most for the sample of a package
abbrev pub most_questions : ℕ
most_questions = 20000000

-- the sample is given up: rules of the package's choice were asked `most_questions`, no more and no fewer, as the tally tells
pub record IsUnsampled (r : PackageRulesRecord) (p : PackageRecord) (f : Features) (tally : Tally) : Type 0 where
  pub strength : ℕ
  pub powerset : r.feature_powerset ≡ true
  pub given : r.strength ≡ Some strength
  pub asked : Rules
  pub made_for : rules.choice_of asked ≡ package_choice r p f
  pub told : rules.asked_in tally ≡ rules.questions_asked asked
  pub spent : rules.asked_in tally ≡ most_questions

-- the rules ask for all sets of one candidate, and has no exclusion or at-least-one groups
pub record IsDepthOne (r : PackageRulesRecord) : Type 0 where
  pub powerset : r.feature_powerset ≡ true
  pub all : r.strength ≡ None
  pub depth : r.depth ≡ Some 1
  pub exclusive : r.exclusive ≡ []
  pub at_least_one_of : r.at_least_one_of ≡ []

-- the same rules with `--each-feature` in place of a powerset and its depth, all else being equal
abbrev pub as_each : PackageRulesRecord → PackageRulesRecord
as_each r = record r { each_feature = true; feature_powerset = false; depth = None }
