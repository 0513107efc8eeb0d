-- Sets in the last places of their room.
use Rattle.std.proofs.Common.{◌≡◌, ℕ, zero, suc, ◌+◌, List, [], ◌∷◌, drop, refl, sym, ap, ◌∙◌, arith}
use Rattle.std.proofs.Math.Seq.{drop-nil}

pub drop-one : (n : ℕ) (xs : List ℕ) → drop (n + 1) xs ≡ drop 1 (drop n xs)
drop-one n [] = drop-nil (n + 1) ∙ sym (ap (drop 1) (drop-nil n))
drop-one zero (x ∷ xs) = refl
drop-one (suc n) (x ∷ xs) = let more : suc n + 1 ≡ suc (n + 1) = omega arith in ap (λ k. drop k (x ∷ xs)) more ∙ drop-one n xs
