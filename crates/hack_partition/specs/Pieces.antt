-- The pieces of a plan, and which places they have.
use Rattle.std.specs.Prelude.{◌≡◌, ℕ, ◌-◌, ◌*◌, ◌%◌, ◌<◌, ◌≤◌, List, length}
use Rattle.std.specs.Int.{div_ceil}
use Rattle.std.specs.List.{slice_range, flat_map, range_with_len}
use Rattle.hack_partition.specs.declared.partition.PartitionKind.{PartitionKind}
use Rattle.hack_partition.specs.declared.partition.PartitionKind.TheVariants.{Block, Turn}

-- piece m of count has the place: under block its slice does, where all slices are as long as the
-- total divided by count, rounded up; under turn the places are assigned to the pieces in rotation
abbrev pub InPiece : PartitionKind → ℕ → ℕ → ℕ → ℕ → Type 0
InPiece Block m count total place = ((m - 1) * div_ceil total count ≤ place) × (place < m * div_ceil total count)
InPiece Turn m count total place = place % count ≡ m - 1

-- exactly one of the pieces has the place
abbrev pub InJustOnePiece : PartitionKind → ℕ → ℕ → ℕ → Type 0
InJustOnePiece kind count total place = (m : ℕ) × (0 < m) × (m ≤ count) × InPiece kind m count total place × ((k : ℕ) → 0 < k → k ≤ count → InPiece kind k count total place → k ≡ m)

-- the blocks from the first to the last, concatenated: block m of count is the slice of the plan at the
-- places of piece m, cut off at the plan's end
abbrev pub joined_blocks : {A : Type 0} → ℕ → List A → List A
joined_blocks count plan =
    flat_map (λ m. slice_range plan ((m - 1) * div_ceil (length plan) count)
    (m * div_ceil (length plan) count)) (range_with_len 1 count)
