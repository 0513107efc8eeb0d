-- The schedule of a plan and a piece.
use Rattle.std.specs.Prelude.{ℕ, ◌≡◌, ◌-◌, ◌*◌, ◌%◌, ◌<◌, ◌↔◌, Bool, true, false, IsTrue, ◌&&◌, List, ◌++◌, map, filter, length, nat_lt, nat_le, nat_eq, IfSome, Option, Some, None, if◌then◌else◌}
use Rattle.std.specs.Int.{div_ceil}
use Rattle.std.specs.List.{flat_map, range_with_len}
use Rattle.hack_partition.specs.declared.partition.Partition.{Partition}
use Rattle.hack_partition.specs.declared.partition.PartitionKind.{PartitionKind}
use Rattle.hack_partition.specs.declared.partition.PartitionKind.TheVariants.{Block, Turn}
use Rattle.hack_partition.specs.Pieces.{InPiece}
use Rattle.hack_plan.specs.declared.parts.PlanVersion.{PlanVersion}
use Rattle.hack_plan.specs.View.{PlanView}
use Rattle.hack_session.specs.declared.step.Step.{Step}
use Rattle.hack_session.specs.declared.step.Step.TheVariants.{Prepare, Skip, Run}

-- the place is in the chosen piece, or none is chosen
abbrev pub IsChosen : Option Partition → ℕ → ℕ → Type 0
IsChosen piece total place = IfSome piece (λ p. InPiece p.kind p.piece p.count total place)

-- a place outside the piece is skipped
abbrev pub mark : (ℕ → Bool) → ℕ → Step
mark inside place = if inside place then Run place else Skip place

-- the preparations of a version, and then its places, in order
abbrev pub steps_of : (ℕ → Bool) → PlanVersion → List Step
steps_of inside v = map Prepare v.preparations.items ++ map (mark inside) (range_with_len v.first (v.end - v.first))

-- a step is at a place
abbrev pub is_place : Step → Bool
is_place (Prepare preparation) = false
is_place step = true

-- all places in order, each once, those outside the piece marked as skipped: for each version in order its preparations and then its places
pub record IsSchedule (piece : Option Partition) (plan : PlanView) (schedule : List Step) : Type 0 where
  pub inside : ℕ → Bool
  pub test : (place : ℕ) → place < length plan.entries → IsTrue (inside place) ↔ IsChosen piece (length plan.entries) place
  pub places : filter is_place schedule ≡ map (mark inside) (range_with_len 0 (length plan.entries))
  pub steps : schedule ≡ flat_map (steps_of inside) plan.versions

-- the piece of a kind has the place, as a test
abbrev pub in_kind : PartitionKind → ℕ → ℕ → ℕ → ℕ → Bool
in_kind Block m count total place = nat_le ((m - 1) * div_ceil total count) place && nat_lt place (m * div_ceil total count)
in_kind Turn m count total place = nat_eq (place % count) (m - 1)

-- the chosen piece has the place, as a test
abbrev pub in_piece : Option Partition → ℕ → ℕ → Bool
in_piece None total place = true
in_piece (Some piece) total place = in_kind piece.kind piece.piece piece.count total place

-- the steps of a plan, of which those outside the piece are skipped
abbrev pub all_steps : Option Partition → PlanView → List Step
all_steps piece plan = flat_map (steps_of (in_piece piece (length plan.entries))) plan.versions
