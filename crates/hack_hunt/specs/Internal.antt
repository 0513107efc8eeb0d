-- What only private functions of the crate promise each other.
use Rattle.std.specs.Prelude.{ℕ, ◌≡◌, ◌<◌, ◌⊎◌, Bool, true, false, List, [], ◌∷◌, AllPairs, Option, None, Some, length, reverse}
use Rattle.std.specs.Cmp.Lexicographic.{slice_cmp}
use Rattle.std.specs.Ordering.{nat_cmp}
use Rattle.std.specs.declared.cmp.Ordering.{Ordering}
use Rattle.hack_closures.specs.Closures.{IsBuildFor}
use Rattle.hack_closures.specs.View.{alone_in, choice_in, has_all, search_of}
use Rattle.hack_closures.specs.declared.build.Build.{Build}
use Rattle.hack_closures.specs.declared.build.Build.TheVariants.{NoFeatures, AllFeatures, Set}
use Rattle.hack_closures.specs.declared.closures.Closures.{Closures}
use Rattle.hack_conflicts.specs.Rules.{IsChoice}
use Rattle.hack_conflicts.specs.Runs.{Finding, Run}
use Rattle.hack_culprits.specs.Built.{IsCutShort, RanHunt}
use Rattle.hack_culprits.specs.declared.aim.Aim.{Aim}
use Rattle.hack_culprits.specs.declared.fault.CulpritsFault.{CulpritsFault}
use Rattle.hack_culprits.specs.declared.fault.CulpritsFault.TheVariants as fault
use Rattle.hack_features.specs.Rules.{Choice, IsListed}
use Rattle.hack_sets.specs.Sets.{IsSelection}
use Rattle.hack_load.specs.declared.features.Features.{Features}
use Rattle.hack_metadata.specs.Records.{PackageRecord}
use Rattle.hack_plan.specs.View.{PlanView}
use Rattle.hack_planner.specs.Kinds.{package_choice}
use Rattle.hack_planner.specs.PackageRules.{PackageRulesRecord}
use Rattle.hack_session.specs.declared.step.Handed.{Handed}
use Rattle.hack_hunt.specs.Hunts.{AreRulesOf, IsPlainAs, IsToldAs, Spot, WereRun, ends_of, searched}
use Rattle.hack_hunt.specs.declared.hunt.Hunted.{Hunted}
use Rattle.hack_hunt.specs.declared.rules.Ends.{Ends}

-- the sets of a choice are searched at a spot
pub record IsAimOf (c : Choice) (ends : Ends) (spot : Spot) (aim : Aim) : Type 0 where
  pub slot : aim.slot ≡ spot.slot
  pub member : aim.member ≡ spot.member
  pub rules : AreRulesOf c ends aim

-- they were searched, and this is told of it
abbrev pub RanAmong : {R : Type 0} → (PlanView → List Handed → R → R → Type 0) → (R → Bool) → Choice → Ends → Spot → Option ℕ → Hunted → PlanView → PlanView → R → R → Type 0
RanAmong ran ended c ends spot most h old new a b =
    (aim : Aim) × (finding : Finding) × IsAimOf c ends spot aim × (hunt : RanHunt ran ended aim most finding old new a b)
    × IsToldAs aim finding h × WereRun aim hunt.made h

-- the search was cut short, or memory was refused before it began
abbrev pub EndsAmong : {R : Type 0} → (PlanView → List Handed → R → R → Type 0) → (R → Bool) → Choice → Ends → Spot → Option ℕ → CulpritsFault → PlanView → PlanView → R → R → Type 0
EndsAmong ran ended c ends spot most why old new a b =
    ((why ≡ fault.Memory) × (new ≡ old) × (b ≡ a)) ⊎ ((aim : Aim) × IsAimOf c ends spot aim × IsCutShort ran ended aim most why old new a b)

-- whether the package has just a plain run is found out, and then the sets are searched, or that is built
abbrev pub RanSearched : {R : Type 0} → (PlanView → List Handed → R → R → Type 0) → (R → Bool) → PackageRulesRecord → PackageRecord → Features → Spot → Option ℕ → Hunted → PlanView → PlanView → R → R → Type 0
RanSearched ran ended r p f spot most h old new a b =
    (plain : Bool) × IsPlainAs r p f plain
    × RanAmong ran ended (searched plain (package_choice r p f)) (ends_of r f plain) spot most h old new a b

-- the search was cut short, or memory was refused before it began
abbrev pub EndsSearched : {R : Type 0} → (PlanView → List Handed → R → R → Type 0) → (R → Bool) → PackageRulesRecord → PackageRecord → Features → Spot → Option ℕ → CulpritsFault → PlanView → PlanView → R → R → Type 0
EndsSearched ran ended r p f spot most why old new a b =
    ((why ≡ fault.Memory) × (new ≡ old) × (b ≡ a))
    ⊎ ((plain : Bool) × IsPlainAs r p f plain
    × EndsAmong ran ended (searched plain (package_choice r p f)) (ends_of r f plain) spot most why old new a b)

-- nothing was built in a search; or this was built for a set that may be chosen
abbrev pub BeginsWith : Closures → List Run → Option Build → Type 0
BeginsWith c runs None = runs ≡ []
BeginsWith c runs (Some build) =
    (set : List Bool) × IsChoice (search_of c) set × IsBuildFor (choice_in c) (alone_in c) (has_all c) (search_of c) set build

-- no set is listed, or some set is
abbrev pub ListsNone : Choice → Bool → Type 0
ListsNone c true = (s : List ℕ) → IsSelection (length c.candidates) s → ¬ IsListed c s
ListsNone c false = (s : List ℕ) × IsSelection (length c.candidates) s × IsListed c s

-- the positions of a set rise
abbrev pub Rises : Build → Type 0
Rises (Set s) = AllPairs (λ p q. p < q) s.items
Rises other = Unit {0}

-- the run without features is first, then sets, then that with all features
abbrev pub rank_of : Build → ℕ
rank_of NoFeatures = 0
rank_of (Set s) = 1
rank_of AllFeatures = 2

-- the positions of a set
abbrev pub positions_of : Build → List ℕ
positions_of (Set s) = s.items
positions_of other = []

-- which of two lists of positions comes first, from their ends
abbrev pub compared : List ℕ → List ℕ → Ordering
compared s t = slice_cmp nat_cmp (reverse s) (reverse t)

-- by what builds are compared
abbrev pub key_of : Build → List ℕ
key_of build = rank_of build ∷ reverse (positions_of build)
