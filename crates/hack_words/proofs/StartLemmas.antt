-- The arguments before and after the first --, one argument after the other.
use Rattle.std.proofs.Common.{◌≡◌, ◌+◌, ℕ, suc, List, [], ◌∷◌, true, false, cond, not, codes, bytes_eq, take, drop, refl, ap, sym, subst, arith}
use Rattle.std.specs.List.{position_or_len}
use Rattle.hack_words.specs.Start.{front_words, trailing_words}

abbrev pub front : List (List ℕ) → List (List ℕ)
front [] = []
front (w ∷ ws) = cond (bytes_eq w (codes "--")) [] (w ∷ front ws)

abbrev pub trailing : List (List ℕ) → List (List ℕ)
trailing [] = []
trailing (w ∷ ws) = cond (bytes_eq w (codes "--")) ws (trailing ws)

abbrev place : List (List ℕ) → ℕ
place ws = position_or_len (λ w. bytes_eq w (codes "--")) ws

pub front-is : (ws : List (List ℕ)) → front ws ≡ front_words ws
front-is [] = refl
front-is (w ∷ ws) = elim (bytes_eq w (codes "--")) as (λ b. cond b [] (w ∷ front ws) ≡ take (cond (not b) (1 + place ws) 0) (w ∷ ws)) [
  | true ↦ refl
  | false ↦ let e : 1 + place ws ≡ suc (place ws) = omega arith in subst (λ k. w ∷ front ws ≡ take k (w ∷ ws)) (sym e) (ap (λ l. w ∷ l) (front-is ws))
]

pub trailing-is : (ws : List (List ℕ)) → trailing ws ≡ trailing_words ws
trailing-is [] = refl
trailing-is (w ∷ ws) = elim (bytes_eq w (codes "--")) as (λ b. cond b ws (trailing ws) ≡ drop (cond (not b) (1 + place ws) 0 + 1) (w ∷ ws)) [
  | true ↦ refl
  | false ↦ let e : (1 + place ws) + 1 ≡ suc (place ws + 1) = omega arith in subst (λ k. trailing ws ≡ drop k (w ∷ ws)) (sym e) (trailing-is ws)
]
