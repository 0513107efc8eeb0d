-- What only private functions of the crate promise each other.
use Rattle.std.specs.Prelude.{◌≡◌, ℕ, List, [], ◌++◌, Option, None, false, codes, length}
use Rattle.std.specs.Io.KnownBytes.{Appends}
use Rattle.hack_process.specs.CommandTexts.{Command}
use Rattle.hack_features.specs.declared.feature.Feature.{Feature}
use Rattle.hack_features.specs.Feature.{groups_of}
use Rattle.hack_routes.specs.FeatureMap.{FeatureMap}
use Rattle.hack_sets.specs.Sets.{IsListing}
use Rattle.hack_features.specs.Rules.{Choice, IsListed}
use Rattle.hack_powerset_list.specs.declared.wishes.Wishes.{Wishes}
use Rattle.hack_plan.specs.Runs.{PackageRun, runs_from}
use Rattle.hack_powerset_list.specs.ListRuns.{options_from}

-- a command of cargo with arguments that are passed on and arguments of its own
abbrev pub own_command : List (List ℕ) → List (List ℕ) → Command
own_command passed own = record { program = codes "cargo"; strip_program_path = false; leading = []; passed = passed; own = own; features = None; trailing = [] }

-- a front of the page was written, and the rest of it is left
pub record TurnsPage (old new : Option (List ℕ)) (page left : List ℕ) : Type 0 where
  pub written : List ℕ
  pub whole : page ≡ written ++ left
  pub appended : Appends old new written

-- what the sets are chosen from
abbrev pub chosen_from : Wishes → List Feature → FeatureMap → Choice
chosen_from wishes features m = record {
  map = m;
  candidates = groups_of features;
  depth = wishes.depth;
  at_least_one_of = groups_of wishes.at_least_one_of.items;
  exclusive = groups_of wishes.mutually_exclusive.items;
}

-- the runs are those of the sets that are listed
pub record AreListRuns (wishes : Wishes) (features : List Feature) (m : FeatureMap) (runs : List PackageRun) : Type 0 where
  pub sets : List (List ℕ)
  pub listing : IsListing (length features) (IsListed (chosen_from wishes features m)) sets
  pub made : runs ≡ runs_from (options_from wishes features) sets
