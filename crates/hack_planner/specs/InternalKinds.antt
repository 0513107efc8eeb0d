-- What private functions make of a package's rules: sets, their runs and a kind.
use Rattle.std.specs.Prelude.{ℕ, ◌≡◌, List, [], ◌∷◌, Bool, true, false, ◌||◌, None, Vec}
use Rattle.std.specs.declared.alloc.Global.{Global}
use Rattle.hack_features.specs.declared.feature.Feature.{Feature}
use Rattle.hack_features.specs.Rules.{Choice, AreCovers}
use Rattle.hack_load.specs.declared.features.Features.{Features}
use Rattle.hack_plan.specs.Runs.{PackageRun, Plain, is_plain, runs_from}
use Rattle.hack_plan.specs.declared.runs.Runs.{Runs}
use Rattle.hack_planner.specs.PackageRules.{PackageRulesRecord}
use Rattle.hack_planner.specs.Kinds.{AreSetsBy, AreRunSettings, options_of}
use Rattle.hack_planner.specs.declared.kind.Kind.{Kind}
use Rattle.hack_planner.specs.declared.kind.Kind.TheVariants.{Normal, Each, Powerset}

-- the runs of these sets, and whether they are a single plain one: no sets are asked for, or there are none
abbrev pub IsMadeOf : PackageRulesRecord → Features → List (List ℕ) → List PackageRun → Bool → Type 0
IsMadeOf r f sets runs true = (runs ≡ Plain ∷ [])
    × ((r.each_feature || r.feature_powerset) ≡ true → is_plain (options_of r f) sets ≡ true)
IsMadeOf r f sets runs false = ((r.each_feature || r.feature_powerset) ≡ true)
    × (is_plain (options_of r f) sets ≡ false) × (runs ≡ runs_from (options_of r f) sets)

-- what comes of a choice of n candidates: the runs of its sets, whether they are a single plain one, and their rows
pub record AreMade (r : PackageRulesRecord) (f : Features) (c : Choice) (n : ℕ) (runs : List PackageRun) (plain : Bool) (rows : List (List Bool)) : Type 0 where
  pub sets : List (List ℕ)
  pub are_sets : AreSetsBy r.feature_powerset r.strength c n sets
  pub covers : r.feature_powerset ≡ true → r.strength ≡ None → AreCovers c n sets
  pub made : IsMadeOf r f sets runs plain
  pub settings : AreRunSettings r.strength c runs rows

-- the kind with these candidates and runs
abbrev pub kind_from : Bool → Bool → Vec Feature Global → Runs → Kind
kind_from powerset true list runs = Normal
kind_from true false list runs = Powerset list runs
kind_from false false list runs = Each list runs
