-- Blocks as lists of entries.
use Rattle.std.proofs.Common.{◌≡◌, ℕ, zero, suc, ◌+◌, ◌-◌, ◌<◌, ◌≤◌, ◌^◌, List, [], ◌∷◌, ◌++◌, length, take, arith, refl, ap, sym, ◌∙◌, inr, get_or, length-append, append-nil, Option, Some, slice_get, leb, le-leb, leb-true, leb-false, true, false}
use Rattle.std.specs.List.{sum_by}
use Rattle.std.specs.List.Sorted.{IsPartitionedBy, IsPartitionPoint}
use Rattle.std.proofs.lemmas.List.{take_all, take-take}
use Rattle.std.proofs.lemmas.Option.{slice_get-get_or}
use Rattle.std.proofs.lemmas.List.FromFn.{length-map-range_with_len, get_or-map-range_with_len}
use Rattle.std.proofs.lemmas.List.Concat.{get_or-flat_map, flat_map-append}
use Rattle.std.proofs.lemmas.List.Sums.{sum_by-cons, sum_by_more, sum_by-take-le}
use Rattle.hack_versions.specs.declared.version.Version.{Version}
use Rattle.hack_plan.specs.declared.places.PlanEntry.{PlanEntry}
use Rattle.hack_plan.specs.declared.blocks.Block.{Block}
use Rattle.hack_plan.specs.Entries.{Lists, Overfills}
use Rattle.hack_plan.specs.Internal.{InBlock}
use Rattle.hack_plan.specs.Blocks.{entry_at, entries_in, entries_of, block_run_count, AreSums}

pub length-entries_in : (b : Block) → length (entries_in b) ≡ b.runs
length-entries_in b = length-map-range_with_len (entry_at b) 0 b.runs

pub length-entries_of : (blocks : List Block) → length (entries_of blocks) ≡ sum_by block_run_count blocks
length-entries_of [] = refl
length-entries_of (b ∷ bs) = omega (arith, length-append (entries_in b) (entries_of bs), length-entries_in b, length-entries_of bs, sum_by-cons block_run_count b bs)

pub at-entries_in : (b : Block) (k : ℕ) (d : PlanEntry) → k < b.runs → get_or (entries_in b) k d ≡ entry_at b k
at-entries_in b k d h = get_or-map-range_with_len (entry_at b) 0 b.runs k k d h (omega arith)

same_entry : (b : Block) (q : PlanEntry) → q.version ≡ b.version → q.slot ≡ b.slot → q.package ≡ b.package → entry_at b q.rank ≡ q
same_entry b q v s p =
    ap (λ (n : Option Version). make n b.slot b.package q.rank) (sym v)
    ∙ ap (λ (n : ℕ). make q.version n b.package q.rank) (sym s)
    ∙ ap (λ (n : Option ℕ). make q.version q.slot n q.rank) (sym p)
  where
    make : Option Version → ℕ → Option ℕ → ℕ → PlanEntry
    make v s p r = record { version = v; slot = s; «package» = p; rank = r }

pub Lists-entries_in : (b : Block) → Lists (InBlock b.version b.slot b.package b.runs) (entries_in b)
Lists-entries_in b = record {
  increasing = λ i j d l h.
      let below : j < b.runs = omega (arith, length-entries_in b) in
      let low : i < b.runs = omega arith in
      rw (at-entries_in b i d low, at-entries_in b j d below) (inr (refl, inr (refl, inr (refl, l))));
  sound = λ k d h.
      let below : k < b.runs = omega (arith, length-entries_in b) in
      rw (at-entries_in b k d below) (refl, refl, refl, below);
  complete = λ q h. (q.rank, omega (arith, length-entries_in b, h.3), at-entries_in b q.rank q h.3 ∙ same_entry b q h.0 h.1 h.2);
}

-- where each block before `at` ends at or before the place, and the one at `at` ends after it, the
-- place is in that one
pub record IsFound (blocks : List Block) (place at : ℕ) (b : Block) : Type 0 where
  pub bound : at < length blocks
  pub start : (get_or blocks at b).end ≡ sum_by block_run_count (take at blocks) + (get_or blocks at b).runs
  pub low : sum_by block_run_count (take at blocks) ≤ place
  pub high : place < (get_or blocks at b).end

ends_below : (blocks : List Block) (total place at : ℕ) (b : Block) → AreSums blocks total → at ≤ length blocks → ((k : ℕ) → k < at → (get_or blocks k b).end ≤ place) → sum_by block_run_count (take at blocks) ≤ place
ends_below blocks total place zero b sums bound before = omega arith
ends_below blocks total place (suc k) b sums bound before =
    omega (arith, before k (omega arith), sums.ends k b (omega arith), ap (λ (n : ℕ). sum_by block_run_count (take n blocks)) (one k))
  where
    one : (k : ℕ) → suc k ≡ k + 1
    one k = omega arith

pub found : (blocks : List Block) (total place at : ℕ) (b : Block) → AreSums blocks total → place < total → at ≤ length blocks → ((k : ℕ) → k < at → (get_or blocks k b).end ≤ place) → (at < length blocks → place < (get_or blocks at b).end) → IsFound blocks place at b
found blocks total place at b sums l bound before after =
    let low : sum_by block_run_count (take at blocks) ≤ place = ends_below blocks total place at b sums bound before in
    let inside : at < length blocks = lt-from_le_ne bound (λ e. absurd (omega (arith, low, sums.all, ap (sum_by block_run_count) (take_all at blocks (le-from_eq (sym e)))))) in
    record { bound = inside; start = sums.ends at b inside ∙ sum_by_more block_run_count blocks at b inside; low = low; high = after inside }
  where
    le-from_eq : {m n : ℕ} → m ≡ n → m ≤ n
    le-from_eq e = omega arith

    lt-from_le_ne : {m n : ℕ} → m ≤ n → (m ≡ n → ⊥) → m < n
    lt-from_le_ne h ne = omega arith

pub run_at : (blocks : List Block) (place at : ℕ) (b : Block) → IsFound blocks place at b → slice_get (entries_of blocks) place ≡ Some (entry_at (get_or blocks at b) (place - ((get_or blocks at b).end - (get_or blocks at b).runs)))
run_at blocks place at b f =
    let rank : ℕ = place - sum_by block_run_count (take at blocks) in
    let d : PlanEntry = entry_at b 0 in
    let inside : rank < (get_or blocks at b).runs = omega (arith, f.start, f.low, f.high) in
    let fits : rank < length (entries_in (get_or blocks at b)) = omega (arith, length-entries_in (get_or blocks at b)) in
    let where' : length (entries_of (take at blocks)) + rank ≡ place = omega (arith, length-entries_of (take at blocks), f.low) in
    let same : rank ≡ place - ((get_or blocks at b).end - (get_or blocks at b).runs) = omega (arith, f.start) in
    let all : place < length (entries_of blocks) = omega (arith, length-entries_of blocks, sum_by_more block_run_count blocks at b f.bound, sum_by-take-le block_run_count blocks (at + 1), f.start, f.high) in
    slice_get-get_or (entries_of blocks) place d all
    ∙ ap Some (ap (λ (n : ℕ). get_or (entries_of blocks) n d) (sym where') ∙ get_or-flat_map entries_in blocks at rank b d f.bound fits ∙ at-entries_in (get_or blocks at b) rank d inside ∙ ap (entry_at (get_or blocks at b)) same)

-- a sum up to a later block is no less
pub ends_rise : (blocks : List Block) (total : ℕ) → AreSums blocks total → (place : ℕ) → IsPartitionedBy (λ b. leb b.end place) blocks
ends_rise blocks total sums place i j d low inside t =
    le-leb _ _ (omega (
      arith,
      leb-true _ _ t,
      sums.ends i d (omega arith),
      sums.ends j d inside,
      ap (sum_by block_run_count) (take-take (i + 1) (j + 1) blocks (omega arith)),
      sum_by-take-le block_run_count (take (j + 1) blocks) (i + 1),
    ))

-- the first block that ends after the place
pub placed : (blocks : List Block) (total place at : ℕ) (b : Block) → AreSums blocks total → place < total → at ≤ length blocks → IsPartitionPoint (λ b. leb b.end place ≡ true) (λ b. leb b.end place ≡ false) blocks at → IsFound blocks place at b
placed blocks total place at b sums l bound point =
    found blocks total place at b sums l bound
    (λ k h. leb-true _ _ (point.0 k b (omega arith) h))
    (λ h. leb-false _ _ (point.1 at b (omega arith) h))

pub entries_of-push : (blocks : List Block) (b : Block) → entries_of (blocks ++ b ∷ []) ≡ entries_of blocks ++ entries_in b
entries_of-push blocks b = flat_map-append entries_in blocks (b ∷ []) ∙ ap (λ t. entries_of blocks ++ t) (append-nil (entries_in b))

-- a block that is too long
pub Overfills-block : (b : Block) (old : List PlanEntry) → 2 ^ 32 ≤ length old + b.runs → Overfills (InBlock b.version b.slot b.package b.runs) old
Overfills-block b old h = let l = Lists-entries_in b in record { added = entries_in b; increasing = l.increasing; sound = l.sound; many = omega (arith, h, length-entries_in b) }
