-- Plans that grow while they are run: runs are added behind those of a package, and places behind the last one.
use Rattle.std.specs.Prelude.{ℕ, zero, suc, ◌≡◌, ◌+◌, ◌-◌, ◌⊎◌, ◌++◌, List, [], ◌∷◌, length, None, Some, slice_get}
use Rattle.std.specs.Option.{option_map_or}
use Rattle.std.specs.List.{AllZip}
use Rattle.hack_plan.specs.declared.places.PlanEntry.{PlanEntry}
use Rattle.hack_plan.specs.declared.places.PlacesFault.{PlacesFault}
use Rattle.hack_plan.specs.declared.places.PlacesFault.TheVariants.{TooManyRuns, Memory}
use Rattle.hack_plan.specs.declared.parts.PlanVersion.{PlanVersion}
use Rattle.hack_plan.specs.Runs.{PackageRun}
use Rattle.hack_plan.specs.Entries.{IsFull}
use Rattle.hack_plan.specs.View.{PackageView, PlanView}

-- the element at an index is changed, if there is one
abbrev pub with_changed : {X : Type 0} → (X → X) → List X → ℕ → List X
with_changed change [] place = []
with_changed change (x ∷ xs) zero = change x ∷ xs
with_changed change (x ∷ xs) (suc place) = x ∷ with_changed change xs place

-- a package with a run behind its others
abbrev pub with_one_run : PackageRun → PackageView → PackageView
with_one_run run k = record k { runs = k.runs ++ run ∷ [] }

-- a version that ends one place later
abbrev pub with_one_place : PlanVersion → PlanVersion
with_one_place v = record v { end = v.end + 1 }

-- how many runs the package at an index has
abbrev pub count_at : List PackageView → ℕ → ℕ
count_at packages place = option_map_or (λ k. length k.runs) (slice_get packages place) 0

-- the place of the next run of the package at an index, in a slot, without a version
abbrev pub next_entry : ℕ → ℕ → List PackageView → PlanEntry
next_entry slot place packages = record { version = None; slot = slot; «package» = Some place; rank = count_at packages place }

-- a plan with a run behind the others of the package at an index, and a place of that run behind all
-- others, which is one of the last version
abbrev pub with_run : ℕ → ℕ → PackageRun → PlanView → PlanView
with_run slot place run plan = record plan {
  packages = with_changed (with_one_run run) plan.packages place;
  versions = with_changed with_one_place plan.versions (length plan.versions - 1);
  entries = plan.entries ++ next_entry slot place plan.packages ∷ [];
}

-- why a run isn't added: there are as many places as may be, or else memory was refused
abbrev pub RefusesRun : List PlanEntry → PlacesFault → Type 0
RefusesRun entries e = (IsFull entries × (e ≡ TooManyRuns)) ⊎ ((¬ IsFull entries) × (e ≡ Memory))

-- a package is the same but for more runs behind its others
pub record HasMoreRuns (old new : PackageView) : Type 0 where
  pub more : List PackageRun
  pub same : new ≡ record old { runs = old.runs ++ more }

-- a version is the same but for where its places end
abbrev pub EndsElsewhere : PlanVersion → PlanVersion → Type 0
EndsElsewhere old new = new ≡ record old { end = new.end }

-- a plan is the same but for more runs behind those of its packages, and more places behind the last one
pub record IsGrown (old new : PlanView) : Type 0 where
  pub call : new.call ≡ old.call
  pub packages : AllZip HasMoreRuns old.packages new.packages
  pub versions : AllZip EndsElsewhere old.versions new.versions
  pub more : List PlanEntry
  pub entries : new.entries ≡ old.entries ++ more
