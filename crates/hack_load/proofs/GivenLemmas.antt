-- Features that a command gets, and those that are left out.
use Rattle.std.proofs.Common.{◌≡◌, not, ℕ, ◌+◌, ◌<◌, get_or, take, Bool, true, false, cond, List, [], ◌∷◌, ◌++◌, ◌↔◌, Contains, IsTrue, map, length, Option, Some, refl, sym, ap, subst, ◌∙◌, inl, inr, string_bytes, String, Global}
use Rattle.std.specs.Prelude.{option_map, unwrap_or}
use Rattle.std.specs.List.{filter, list_any}
use Rattle.std.specs.Str.{bytes_eq}
use Rattle.std.proofs.lemmas.Bool.{cases_Bool, true≢false}
use Rattle.std.proofs.lemmas.Cmp.{nat_list_eq_equiv}
use Rattle.std.proofs.lemmas.List.{map-append, take_more}
use Rattle.std.proofs.lemmas.List.Elements.{filter-append}
use Rattle.std.proofs.lemmas.Map.Views.{Contains-from_any, list_any-from_Contains}
use Rattle.std.proofs.lemmas.Slice.Eq.{bytes_eq-Decides}
use Rattle.hack_base.specs.Names.{Name, names_of}
use Rattle.hack_load.specs.Features.{candidate_names_in}
use Rattle.hack_load.specs.declared.features.Features.{Features}

-- a test whether a name is in a list is `list_any`
test-is : (b : Bool) (names : List Name) (x : Name) → (IsTrue b ↔ Contains names x) → b ≡ list_any (bytes_eq x) names
test-is true names x h = sym (list_any-from_Contains nat_list_eq_equiv x names (h.0 refl))
test-is false names x h =
    elim (cases_Bool (list_any (bytes_eq x) names)) [
      | inl e ↦ absurd (true≢false (sym (h.1 (Contains-from_any (λ u v. (bytes_eq-Decides u v).0) x names e))))
      | inr e ↦ sym e
    ]

pub knows-is : (b : Bool) (o : Option Features) (fs : Features) (x : Name) → o ≡ Some fs → (IsTrue b ↔ Contains (candidate_names_in fs) x) → b ≡ unwrap_or (option_map (λ f. list_any (bytes_eq x) (candidate_names_in f)) o) false
knows-is b o fs x is h = subst (λ v. b ≡ unwrap_or (option_map (λ f. list_any (bytes_eq x) (candidate_names_in f)) v) false) (sym is) (test-is b (candidate_names_in fs) x h)

names-more : (xs : List (String Global)) (i : ℕ) (d : String Global) → i < length xs → names_of (take (i + 1) xs) ≡ names_of (take i xs) ++ string_bytes (get_or xs i d) ∷ []
names-more xs i d lt = ap names_of (take_more xs i d lt) ∙ map-append string_bytes (take i xs) (get_or xs i d ∷ [])

module _ (p : Name → Bool) (xs : List (String Global)) (i : ℕ) (x : String Global) (lt : i < length xs) (is : x ≡ get_or xs i x) where
  pub known-more : (old now : List Name) → now ≡ old ++ cond (p (string_bytes x)) (string_bytes x ∷ []) [] → old ≡ filter p (names_of (take i xs)) → now ≡ filter p (names_of (take (i + 1) xs))
  known-more old now push before =
      push ∙ ap (λ l. l ++ cond (p (string_bytes x)) (string_bytes x ∷ []) []) before
      ∙ sym (ap (filter p) (names-more xs i x lt ∙ ap (λ s. names_of (take i xs) ++ string_bytes s ∷ []) (sym is)) ∙ filter-append p (names_of (take i xs)) (string_bytes x ∷ []))

  module _ {A : Type 0} (f : Name → A) where
    one : (b : Bool) → cond b [] (f (string_bytes x) ∷ []) ≡ map f (cond (not b) (string_bytes x ∷ []) [])
    one true = refl
    one false = refl

    pub unknown-more : (old now : List A) → now ≡ old ++ cond (p (string_bytes x)) [] (f (string_bytes x) ∷ []) → old ≡ map f (filter (λ n. not (p n)) (names_of (take i xs))) → now ≡ map f (filter (λ n. not (p n)) (names_of (take (i + 1) xs)))
    unknown-more old now push before =
        let q = λ (n : Name). not (p n) in
        push ∙ ap (λ l. l ++ cond (p (string_bytes x)) [] (f (string_bytes x) ∷ [])) before
        ∙ ap (λ l. map f (filter q (names_of (take i xs))) ++ l) (one (p (string_bytes x)))
        ∙ sym (ap (λ l. map f (filter q l)) (names-more xs i x lt ∙ ap (λ s. names_of (take i xs) ++ string_bytes s ∷ []) (sym is))
        ∙ ap (map f) (filter-append q (names_of (take i xs)) (string_bytes x ∷ [])) ∙ map-append f (filter q (names_of (take i xs))) (filter q (string_bytes x ∷ [])))
