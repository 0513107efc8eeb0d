-- Names of toolchains, and targets in one argument.
use Rattle.std.proofs.Common.{◌≡◌, ◌≢◌, ℕ, List, [], ◌∷◌, ◌++◌, refl, sym, ap, ◌∙◌, Bool, true, false, map, length, arith, cond, String, Global, Option, Some, None, Bor, MatchOption, unwrap_or}
use Rattle.std.specs.Prelude.{string_bytes, codes, ◌==◌}
use Rattle.std.specs.List.{join_by}
use Rattle.std.proofs.lemmas.List.Folds.{flat_map-map}
use Rattle.std.proofs.lemmas.Bool.Decides.{nat_tests}
use Rattle.hack_session.specs.Toolchains.{toolchain_name, target_words}

name_kept : (name : List ℕ) → ((rest : List ℕ) → name ≢ 43 ∷ rest) → name ≡ toolchain_name name
name_kept [] no_plus = refl
name_kept (b ∷ bs) no_plus = go (b == 43) refl
  where
    go : (t : Bool) → (b == 43) ≡ t → b ∷ bs ≡ cond t bs (b ∷ bs)
    go false e = refl
    go true e = let is : b ≡ 43 = grind (arith, nat_tests) in absurd (no_plus bs (ap (λ (n : ℕ). n ∷ bs) is))

-- what follows a leading `+`, or else the whole
pub name_stripped : (name : List ℕ) (found : Option (Bor (List ℕ))) (whole : Bor (List ℕ)) → whole.now ≡ name → MatchOption found ((rest : List ℕ) → name ≢ 43 ∷ rest) (λ x. name ≡ 43 ∷ x.now) → (unwrap_or found whole).now ≡ toolchain_name name
name_stripped name None whole is none = is ∙ name_kept name none
name_stripped name (Some x) whole is some = sym (ap toolchain_name some)

pub joined_targets : (xs : List (String Global)) (joined : List ℕ) → false ≡ (length xs == 0) → joined ≡ join_by string_bytes (codes ",") xs → codes "--target" ∷ joined ∷ [] ≡ target_words (map string_bytes xs)
joined_targets [] joined e f = absurd (cc)
joined_targets (x ∷ xs) joined e f =
    ap (λ (text : List ℕ). codes "--target" ∷ text ∷ []) (f ∙ ap (λ (l : List ℕ). string_bytes x ++ l) (sym (flat_map-map (λ part. codes "," ++ part) string_bytes xs)))
