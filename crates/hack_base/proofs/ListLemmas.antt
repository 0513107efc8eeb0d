-- Lemmas that the proofs on lists of names share.
use Rattle.std.proofs.Common.{◌≡◌, ◌<◌, ◌+◌, ◌-◌, ◌++◌, ◌∙◌, ℕ, zero, suc, List, true, length, arith, ap, sym, slice_index, append-nil, append_assoc}
use native.Mathlib.Numerals.{unary_clauses}
use Rattle.std.specs.List.{repeat}
use Rattle.std.proofs.lemmas.Bool.Decides.{nat_tests}
use Rattle.hack_base.specs.Lists.{separator_of, is_quoted}

pub separator_of-ascii : (text : List ℕ) → separator_of text < 128
separator_of-ascii text = grind (arith, nat_tests)

-- a text between quotes has two bytes or more, and an ASCII character at each end
pub is_quoted-ends : (text : List ℕ) → is_quoted text ≡ true → (1 < length text) × (slice_index text 0 < 128) × (slice_index text (length text - 1) < 128)
is_quoted-ends text h = grind (arith, nat_tests)

swap : (n : ℕ) (xs : List ℕ) → xs ++ repeat n xs ≡ repeat n xs ++ xs
swap zero xs = append-nil xs
swap (suc n) xs = ap (λ rest. xs ++ rest) (swap n xs) ∙ sym (append_assoc xs (repeat n xs) xs)

-- one copy more is one at the end
pub repeat-more : (n : ℕ) (xs : List ℕ) → repeat (n + 1) xs ≡ repeat n xs ++ xs
repeat-more n xs = simp unary_clauses (swap n xs)
