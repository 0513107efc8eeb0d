-- The features that texts of options name.
use Rattle.std.specs.Prelude.{◌≡◌, ℕ, List, String, string_bytes}
use Rattle.std.specs.List.{AllZip}
use Rattle.hack_features.specs.declared.feature.Feature.{Feature}
use Rattle.hack_features.specs.Feature.{IsGroup}
use Rattle.hack_rules.specs.CliLists.{Lift}
use Rattle.hack_base.specs.Lists.{group_names}

-- one group for each text, with the names in it
abbrev pub AreGroupsOf : List (List ℕ) → List Feature → Type 0
AreGroupsOf texts features = AllZip (λ text feature. IsGroup (group_names text) feature) texts features

-- each package with the group that is lifted for it
abbrev pub AreLifts : {Y : Type 0} → List Lift → List (String Y × Feature) → Type 0
AreLifts lifts pairs =
    AllZip (λ lift pair. (string_bytes pair.0 ≡ lift.owner) × IsGroup lift.group pair.1) lifts pairs
