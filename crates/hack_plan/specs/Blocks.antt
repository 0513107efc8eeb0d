-- A plan as blocks of places.
use Rattle.std.specs.Prelude.{ℕ, ◌≡◌, ◌+◌, ◌<◌, ◌^◌, List, map, take, length, sum_by, slice_index_or}
use Rattle.std.specs.List.{range_with_len, flat_map}
use Rattle.hack_plan.specs.declared.places.PlanEntry.{PlanEntry}
use Rattle.hack_plan.specs.declared.blocks.Block.{Block}

-- the run of a block at a rank
abbrev pub entry_at : Block → ℕ → PlanEntry
entry_at b rank = record { version = b.version; slot = b.slot; «package» = b.package; rank = rank }

-- the places of a block
abbrev pub entries_in : Block → List PlanEntry
entries_in b = map (entry_at b) (range_with_len 0 b.runs)

-- the places of blocks, in order
abbrev pub entries_of : List Block → List PlanEntry
entries_of blocks = flat_map entries_in blocks

-- the number of runs of a block
abbrev pub block_run_count : Block → ℕ
block_run_count b = b.runs

-- each block's end is the sum of the runs up to and including it, and the total is the sum of all,
-- at most 4294967295
pub record AreSums (blocks : List Block) (total : ℕ) : Type 0 where
  pub ends : (k : ℕ) (d : Block) → k < length blocks → (slice_index_or blocks k d).end ≡ sum_by block_run_count (take (k + 1) blocks)
  pub all : total ≡ sum_by block_run_count blocks
  pub short : total < 2 ^ 32
