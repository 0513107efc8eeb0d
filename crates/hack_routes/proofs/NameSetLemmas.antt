-- Sets of names, after one more name.
use Rattle.std.proofs.Common.{◌≡◌, [], List, ◌∷◌, ◌++◌, refl, sym, ◌∙◌, ap, subst, arith, Bool, true, false, cond, IsTrue, ◌⊎◌, inl, inr, ◌↔◌, Contains}
use Rattle.std.specs.List.{list_any}
use Rattle.std.specs.Cmp.Lexicographic.{slice_cmp}
use Rattle.std.specs.Ordering.{nat_cmp, is_eq}
use Rattle.std.specs.Str.{bytes_eq}
use Rattle.std.specs.Borrow.{Bor}
use Rattle.std.proofs.lemmas.Slice.Eq.{bytes_eq-Decides}
use Rattle.std.proofs.lemmas.List.Elements.{Contains-append_left, Contains-push, Contains-push_cases}
use Rattle.std.proofs.lemmas.Map.Text.{is_eq-slice_cmp}
use Rattle.hack_base.proofs.NameLemmas.{same_text}
use Rattle.hack_base.specs.Names.{Name}
use Rattle.hack_routes.specs.NameSets.{NameSet, has_name}
use Rattle.hack_routes.specs.InternalSearch.{HasJust}

has-more-step : (x y : Name) (b old new : Bool) → bytes_eq x y ≡ b → new ≡ cond b true old → IsTrue new ↔ (IsTrue old ⊎ (x ≡ y))
has-more-step x y true old new t e = (λ k. inr (same_text x y t), λ k. e)
has-more-step x y false old new t e = (
  λ k. inl (sym e ∙ k),
  λ k. elim k [
    | inl o ↦ e ∙ o
    | inr s ↦ let z : false ≡ true = sym t ∙ (bytes_eq-Decides x y).1 s in cc
  ],
)

-- what a set has after x was added to it
pub has-more : (x y : Name) (old new : NameSet) → has_name new y ≡ cond (is_eq (slice_cmp nat_cmp x y)) true (has_name old y) → IsTrue (has_name new y) ↔ (IsTrue (has_name old y) ⊎ (x ≡ y))
has-more x y old new e = has-more-step x y (bytes_eq x y) (has_name old y) (has_name new y) refl (e ∙ ap (λ b. cond b true (has_name old y)) (is_eq-slice_cmp x y))

-- a set of the names in a list, and one name more in both
pub has_just-more : (names : List Name) (x : Name) (old new : NameSet) → HasJust old names → ((y : Name) → has_name new y ≡ cond (is_eq (slice_cmp nat_cmp x y)) true (has_name old y)) → HasJust new (names ++ x ∷ [])
has_just-more names x old new h e = λ y.
    let m = has-more x y old new (e y) in (
      λ k. elim (m.0 k) [ inl o ↦ Contains-append_left names (x ∷ []) y ((h y).0 o) | inr s ↦ subst (λ u. Contains (names ++ x ∷ []) u) s (Contains-push names x) ],
      λ k. elim (Contains-push_cases names x y k) [ inl o ↦ m.1 (inl ((h y).1 o)) | inr s ↦ m.1 (inr s) ],
    )

-- an empty set has exactly the names in the empty list
pub has_just-nil : (s : NameSet) → s.keys ≡ [] → HasJust s []
has_just-nil s e = λ y. (λ k. let z : false ≡ true = sym (ap (list_any (λ (b : Bor Name). is_eq (slice_cmp nat_cmp y b.now))) e) ∙ k in cc, λ k. absurd (omega (arith, k.1)))
