-- Each place is in one piece, and the blocks joined are the plan.
use Rattle.std.proofs.Common.{◌≡◌, ◌↔◌, ℕ, zero, suc, ◌+◌, ◌-◌, ◌*◌, ◌/◌, ◌%◌, ◌<◌, ◌≤◌, List, ◌++◌, length, take, drop, arith, ap, sym, ◌∙◌, min}
use Rattle.std.specs.Int.{div_ceil}
use Rattle.std.specs.List.{slice_range, flat_map, range_with_len}
use Rattle.std.proofs.lemmas.List.{append-nil, append_assoc, take-append-drop, take-take, drop-take, take_all}
use Rattle.std.proofs.Math.Nat.{div-eq_of_lt-le, div-mul-le_self, lt-div-mul-add, div-lt_iff_lt-mul}
use Rattle.hack_partition.specs.declared.partition.PartitionKind.{PartitionKind}
use Rattle.hack_partition.specs.declared.partition.PartitionKind.TheVariants.{Block, Turn}
use Rattle.hack_partition.specs.Pieces.{InPiece, InJustOnePiece, joined_blocks}

-- count times a quotient that is rounded up is the total or more
pub div_ceil-covers : (total count : ℕ) → 0 < count → total ≤ count * div_ceil total count
div_ceil-covers total count h =
    let whole : count * (total / count) + total % count ≡ total = omega arith in
    let below : total % count < count = omega arith in
    covers total count (total / count) (total % count) whole below
  where
    covers : (total count q r : ℕ) → count * q + r ≡ total → r < count → total ≤ count * (q + min 1 r)
    covers total count q zero e l = grind arith
    covers total count q (suc r) e l = grind arith

pub div_ceil-positive : (total count : ℕ) → 0 < count → 0 < total → 0 < div_ceil total count
div_ceil-positive total count h k = grind (arith, div_ceil-covers total count h)

before-next : (m c : ℕ) → 0 < m → (m - 1) * c + c ≡ m * c
before-next zero c h = absurd (omega arith)
before-next (suc m) c h = ap (λ n. n * c + c) one ∙ more
  where
    one : suc m - 1 ≡ m
    one = omega arith

    more : m * c + c ≡ suc m * c
    more = omega arith

pub in_block : (m count total place : ℕ) → 0 < m → 0 < count → place < total → (place / div_ceil total count ≡ m - 1) ↔ InPiece Block m count total place
in_block m count total place p h l = at (div_ceil total count) (div_ceil-positive total count h (omega arith))
  where
    at : (c : ℕ) → 0 < c → (place / c ≡ m - 1) ↔ (((m - 1) * c ≤ place) × (place < m * c))
    at c k = (
      λ e. (omega (arith, div-mul-le_self place c, ap (λ n. n * c) e), omega (arith, lt-div-mul-add {a = place} {b = c} k, ap (λ n. n * c) e, before-next m c p)),
      λ w. div-eq_of_lt-le c w.0 (omega (arith, w.1, before-next m c p)),
    )

-- each place is in exactly one piece
pub in_just_one : (count total : ℕ) → 0 < count → (kind : PartitionKind) (place : ℕ) → place < total → InJustOnePiece kind count total place
in_just_one count total h Block place l =
    let covers : place < count * div_ceil total count = omega (arith, div_ceil-covers total count h) in
    let positive = div_ceil-positive total count h (omega arith) in
    let q : place / div_ceil total count < count = (div-lt_iff_lt-mul positive).1 covers in (
      place / div_ceil total count + 1,
      omega arith,
      omega arith,
      (in_block (place / div_ceil total count + 1) count total place (omega arith) h l).0 (omega arith),
      λ k a b w. omega (arith, (in_block k count total place a h l).1 w),
    )
in_just_one count total h Turn place l =
    let r : place % count < count = omega arith in
    (place % count + 1, omega arith, omega arith, omega arith, λ k a b w. omega (arith, w))

take-more : {A : Type 0} (n m : ℕ) (xs : List A) → take n xs ++ take m (drop n xs) ≡ take (n + m) xs
take-more n m xs =
    ap (λ t. t ++ take m (drop n xs)) (sym (take-take n (n + m) xs (omega arith)))
    ∙ ap (λ t. take n (take (n + m) xs) ++ t) (sym (drop-take n m xs))
    ∙ take-append-drop n (take (n + m) xs)

-- a prefix and the slice after it are a longer prefix
take-slice : {A : Type 0} (a b : ℕ) (xs : List A) → a ≤ b → take a xs ++ slice_range xs a b ≡ take b xs
take-slice a b xs h = take-more a (b - a) xs ∙ ap (λ (n : ℕ). take n xs) (omega arith)

-- the blocks after the first j
blocks-behind : {A : Type 0} (c j n : ℕ) (xs : List A) → take (j * c) xs ++ flat_map (λ m. slice_range xs ((m - 1) * c) (m * c)) (range_with_len (j + 1) n) ≡ take ((j + n) * c) xs
blocks-behind c j zero xs = append-nil (take (j * c) xs) ∙ ap (λ (k : ℕ). take (k * c) xs) none
  where
    none : j ≡ j + 0
    none = omega arith
blocks-behind c j (suc n) xs =
    sym (append_assoc (take (j * c) xs) (slice_range xs ((j + 1 - 1) * c) ((j + 1) * c)) (flat_map (λ m. slice_range xs ((m - 1) * c) (m * c)) (range_with_len (j + 1 + 1) n)))
    ∙ ap (λ t. t ++ flat_map (λ m. slice_range xs ((m - 1) * c) (m * c)) (range_with_len (j + 1 + 1) n)) step
    ∙ blocks-behind c (j + 1) n xs
    ∙ ap (λ (k : ℕ). take (k * c) xs) count
  where
    one : j + 1 - 1 ≡ j
    one = omega arith

    more : j * c ≤ (j + 1) * c
    more = omega arith

    count : j + 1 + n ≡ j + suc n
    count = omega arith

    step : take (j * c) xs ++ slice_range xs ((j + 1 - 1) * c) ((j + 1) * c) ≡ take ((j + 1) * c) xs
    step = ap (λ (k : ℕ). take (j * c) xs ++ slice_range xs (k * c) ((j + 1) * c)) one ∙ take-slice (j * c) ((j + 1) * c) xs more

pub joined-all : {A : Type 0} (count : ℕ) → 0 < count → (plan : List A) → joined_blocks count plan ≡ plan
joined-all count h plan = front (div_ceil (length plan) count) ∙ blocks-behind (div_ceil (length plan) count) 0 count plan ∙ take_all _ plan (omega (arith, div_ceil-covers (length plan) count h))
  where
    zero-product : (c : ℕ) → 0 ≡ 0 * c
    zero-product c = omega arith

    front : (c : ℕ) → flat_map (λ m. slice_range plan ((m - 1) * c) (m * c)) (range_with_len 1 count) ≡ take (0 * c) plan ++ flat_map (λ m. slice_range plan ((m - 1) * c) (m * c)) (range_with_len 1 count)
    front c = ap (λ (n : ℕ). take n plan ++ flat_map (λ m. slice_range plan ((m - 1) * c) (m * c)) (range_with_len 1 count)) (zero-product c)
