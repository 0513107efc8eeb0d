-- What private functions promise each other of plans that grow.
use Rattle.std.specs.Prelude.{ℕ, ◌+◌, ◌<◌, ◌^◌, List, IsSomeAnd, length, slice_get, vec_len, vec_capacity}
use Rattle.hack_plan.specs.declared.runs.Runs.{Runs}
use Rattle.hack_plan.specs.declared.parts.PlanPackage.{PlanPackage}
use Rattle.hack_plan.specs.declared.parts.PlanVersion.{PlanVersion}
use Rattle.hack_plan.specs.RunsView.{runs_in}

-- one run more takes no memory
abbrev pub HasRoom : Runs → Type 0
HasRoom runs = (length (runs_in runs) + 1 < 2 ^ 64) × (vec_len runs.added < vec_capacity runs.added)

-- one run more of the package at an index takes no memory
abbrev pub HasRoomAt : List PlanPackage → ℕ → Type 0
HasRoomAt packages place = IsSomeAnd (slice_get packages place) (λ k. HasRoom k.runs)

-- a version that ends at a place
abbrev pub with_end : ℕ → PlanVersion → PlanVersion
with_end place v = record v { end = place }
