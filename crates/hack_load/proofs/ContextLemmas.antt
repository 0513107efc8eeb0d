-- Members and their places.
use Rattle.std.proofs.Common.{◌≡◌, ◌==◌, ℕ, ◌+◌, ◌<◌, ◌≤◌, List, length, get_or, Bool, true, false, Option, Some, None, arith, refl, sym, ap, ◌∙◌, inl, inr}
use Rattle.std.specs.Prelude.{Contains, IfSome, ◌&&◌, map, nat_lt, option_map}
use Rattle.std.specs.List.{find, list_all, position_or_len}
use Rattle.std.proofs.lemmas.Bool.{cases_lt, true≢false, eq-eqb, eqb-true, ltb-true, lt-ltb}
use Rattle.std.proofs.lemmas.List.Elements.{All-contains}
use Rattle.std.proofs.lemmas.List.Folds.{find_at}
use Rattle.std.proofs.lemmas.List.Sums.{fails_before_first, passes_at_first, position_or_len_is, AllPass-from_list_all}
use Rattle.std.proofs.lemmas.Option.{slice_get_within, get_or_from_slice_get}
use Rattle.std.proofs.lemmas.List.{get_or-map, length-map}
use Rattle.hack_metadata.specs.RecordViews.{package_view, place_at}
use Rattle.hack_metadata.specs.declared.metadata.resolve.PackageId.{PackageId}
use Rattle.hack_load.specs.Contexts.{IsWholeContext, is_member_or_none, place_among}
use Rattle.hack_load.specs.ContextView.{context_view}
use Rattle.hack_load.specs.declared.context.Context.{Context}

and-first : (a b : Bool) → (a && b) ≡ true → a ≡ true
and-first true b e = refl
and-first false b e = e

-- a member has a place
pub place-below : (ms : List ℕ) (id : ℕ) → Contains ms id → place_among ms id < length ms
place-below ms id h =
    elim (cases_lt (place_among ms id) (length ms)) [
      | inl lt ↦ lt
      | inr ge ↦
          let here : (get_or ms h.0 id == id) ≡ true = eq-eqb (get_or ms h.0 id) id h.2 in
          let no : (get_or ms h.0 id == id) ≡ false = fails_before_first (λ m. m == id) ms h.0 id (omega (arith, h.1, ge)) in
          absurd (true≢false (sym here ∙ no))
    ]

-- members that pass a test are below its bound
pub members-below : (n : ℕ) (ms : List ℕ) → list_all (λ m. nat_lt m n) ms ≡ true → (id : ℕ) → Contains ms id → id < n
members-below n ms all id h = ltb-true id n (All-contains (λ m. nat_lt m n ≡ true) ms id (AllPass-from_list_all (λ m. nat_lt m n) ms all) h)

-- what is found is an element
pub found-contains : (p : ℕ → Bool) (ms : List ℕ) (o : Option ℕ) → o ≡ find p ms → IfSome o (Contains ms)
found-contains p ms None is = tt
found-contains p ms (Some id) is =
    let at = sym (find_at p ms) ∙ sym is in
    (position_or_len p ms, slice_get_within ms (position_or_len p ms) id at, get_or_from_slice_get ms (position_or_len p ms) id id at)

-- what has a place among the members is one
pub place-contains : (ms : List ℕ) (o : Option ℕ) → is_member_or_none ms o ≡ true → IfSome o (Contains ms)
place-contains ms None h = tt
place-contains ms (Some id) h =
    let lt = ltb-true (place_among ms id) (length ms) h in
    (place_among ms id, lt, eqb-true (get_or ms (place_among ms id) id) id (passes_at_first (λ m. m == id) ms id lt))

-- each member has a place among the members
pub contains-place : (ms : List ℕ) (o : Option ℕ) → IfSome o (Contains ms) → is_member_or_none ms o ≡ true
contains-place ms None h = refl
contains-place ms (Some id) h = lt-ltb (place_among ms id) (length ms) (place-below ms id h)

-- the facts that a context keeps
pub context-whole : (c : Context) → IsWholeContext (context_view c)
context-whole c =
    let ms = map place_at c.metadata.workspace_members.items in
    let n = length c.metadata.packages.items in
    record {
      packages = λ id h. let lt = members-below n ms (and-first (list_all (λ m. nat_lt m n) ms) _ c.metadata.known) id h in omega (arith, lt, length-map c.metadata.packages.items package_view);
      manifests = c.each_manifest ∙ sym (length-map c.metadata.workspace_members.items place_at);
      features = c.each_features ∙ sym (length-map c.metadata.workspace_members.items place_at);
      current = place-contains ms (option_map place_at c.current_package) c.current;
    }

-- ---- the search for a member's place

module _ (xs : List PackageId) (id i : ℕ) (before : (k d : ℕ) → k < i → (get_or (map place_at xs) k d == id) ≡ false) where
  pub place-here : (d : PackageId) → i < length xs → ((get_or xs i d).index == id) ≡ true → i ≡ place_among (map place_at xs) id
  place-here d lt here = sym (position_or_len_is (λ m. m == id) (map place_at xs) i 0 (omega (arith, lt, length-map xs place_at)) (λ k l. before k 0 l) (λ _. ap (λ n. n == id) (get_or-map place_at xs i d 0 lt) ∙ here))

  pub place-more : (d : PackageId) → i < length xs → ((get_or xs i d).index == id) ≡ false → (k e : ℕ) → k < i + 1 → (get_or (map place_at xs) k e == id) ≡ false
  place-more d lt other k e l =
      elim (cases_lt k i) [
        | inl less ↦ before k e less
        | inr ge ↦
            let same : k ≡ i = omega (arith, l, ge) in
            ap (λ n. get_or (map place_at xs) n e == id) same ∙ ap (λ n. n == id) (get_or-map place_at xs i d e lt) ∙ other
      ]

  pub place-none : length xs ≤ i → length xs ≡ place_among (map place_at xs) id
  place-none le =
      sym (position_or_len_is (λ m. m == id) (map place_at xs) (length xs) 0 (omega (arith, length-map xs place_at)) (λ k l. before k 0 (omega (arith, l, le))) (λ l. absurd (omega (arith, l, length-map xs place_at))))
