-- The last listed set, and the others.
use Rattle.std.proofs.Common.{◌≡◌, ℕ, ◌-◌, ◌<◌, List, [], ◌∷◌, ◌++◌, length, take, drop, refl, sym, ◌∙◌, ap, subst, arith, Bool, true, false, cond, filter, append-nil, length-append, Contains, inl, inr}
use Rattle.std.specs.Prelude.{not, ◌&&◌, bytes_eq}
use Rattle.std.proofs.lemmas.Slice.Eq.{bytes_eq-Decides}
use Rattle.std.proofs.lemmas.List.Elements.{filter-append, All-contains, Contains-push}
use Rattle.std.proofs.Math.Seq.{drop-append_seam, take-append_seam}
use Rattle.std.proofs.lemmas.Grind.{flat_map-append}
use Rattle.hack_features.specs.declared.rules.Rules.{Rules}
use Rattle.hack_sets.specs.Sets.{IsSelection, IsBefore, Pairwise}
use Rattle.hack_sets.specs.Questions.{is_whole}
use Rattle.hack_features.specs.View.{may_of, size_of, whole_of}
use Rattle.hack_base.proofs.Members.{Contains-head, Contains-tail, Contains-cons_cases}
use Rattle.hack_sets.specs.Walk.{below}
use Rattle.hack_plan.specs.Runs.{Set}
use Rattle.hack_plan.specs.RunsView.{with_last_first}
use Rattle.hack_base.specs.Names.{Name}
use Rattle.hack_powerset_list.specs.Lines.{run_line}
use Rattle.hack_powerset_list.specs.Walks.{EndsIn, is_other, listed_in, set_lines}
use Rattle.hack_powerset_list.proofs.WalkListing.{walk_sets}

-- no set is before itself
not-before : (s : List ℕ) → IsBefore s s → ⊥
not-before s h = h.absent h.present

-- each other set of an ordered list is before the last one
before-last : (front : List (List ℕ)) (last : List ℕ) → Pairwise IsBefore (front ++ last ∷ []) → (x : List ℕ) → Contains front x → IsBefore x last
before-last [] last h x (k, lt, is) = absurd (omega arith)
before-last (y ∷ front) last h x c =
    elim (Contains-cons_cases y front x c) [
      | inl e ↦ subst (λ z. IsBefore z last) e (All-contains (IsBefore y) (front ++ last ∷ []) last h.0 (Contains-push front last))
      | inr w ↦ before-last front last h.1 x w
    ]

differs : (s t : List ℕ) → (s ≡ t → ⊥) → not (bytes_eq s t) ≡ true
differs s t ne = go (bytes_eq s t) refl
  where
    go : (b : Bool) → bytes_eq s t ≡ b → not b ≡ true
    go true e = absurd (ne ((bytes_eq-Decides s t).0 e))
    go false e = refl

same : (s : List ℕ) → not (bytes_eq s s) ≡ false
same s = ap not ((bytes_eq-Decides s s).1 refl)

filter-all : (test : List ℕ → Bool) (xs : List (List ℕ)) → ((x : List ℕ) → Contains xs x → test x ≡ true) → filter test xs ≡ xs
filter-all test [] h = refl
filter-all test (x ∷ xs) h =
    ap (λ b. cond b (x ∷ filter test xs) (filter test xs)) (h x (Contains-head x xs)) ∙ ap (λ l. x ∷ l) (filter-all test xs (λ y c. h y (Contains-tail x xs y c)))

filter-both : (a b : List ℕ → Bool) (xs : List (List ℕ)) → filter (λ s. a s && b s) xs ≡ filter b (filter a xs)
filter-both a b [] = refl
filter-both a b (x ∷ xs) = ap (λ l. cond (a x && b x) (x ∷ l) l) (filter-both a b xs) ∙ go (a x)
  where
    go : (t : Bool) → cond (t && b x) (x ∷ filter b (filter a xs)) (filter b (filter a xs)) ≡ filter b (cond t (x ∷ filter a xs) (filter a xs))
    go true = refl
    go false = refl

-- the other sets are those before the last
pub others-are : (r : Rules) (sets front : List (List ℕ)) (last : List ℕ) → Pairwise IsBefore (filter (is_whole (whole_of r)) sets) → filter (is_whole (whole_of r)) sets ≡ front ++ last ∷ []
    → filter (is_other r last) sets ≡ front
others-are r sets front last order is =
    let other : List ℕ → Bool = λ s. not (bytes_eq s last) in
    filter-both (is_whole (whole_of r)) other sets
    ∙ ap (filter other) is
    ∙ filter-append other front (last ∷ [])
    ∙ ap (λ b. filter other front ++ cond b (last ∷ []) []) (same last)
    ∙ append-nil (filter other front)
    ∙ filter-all other front (λ x c. differs x last (λ e. not-before last (subst (λ z. IsBefore z last) e (before-last front last (subst (Pairwise IsBefore) is order) x c))))

-- a list with its last element moved to the front
pub last_first-are : {X : Type 0} (front : List X) (last : X) → drop (length (front ++ last ∷ []) - 1) (front ++ last ∷ []) ++ take (length (front ++ last ∷ []) - 1) (front ++ last ∷ []) ≡ last ∷ front
last_first-are front last =
    let n : length (front ++ last ∷ []) - 1 ≡ length front = omega (arith, length-append front (last ∷ [])) in
    ap (λ k. drop k (front ++ last ∷ []) ++ take k (front ++ last ∷ [])) n
    ∙ ap (λ l. l ++ take (length front) (front ++ last ∷ [])) (drop-append_seam front (last ∷ []))
    ∙ ap (λ l. last ∷ l) (take-append_seam front (last ∷ []))

module _ (names : List Name) (sets front : List (List ℕ)) (last : List ℕ) (is : sets ≡ front ++ last ∷ []) where
  pub first-text : (b : Bool) → b ≡ true → set_lines names (with_last_first b sets) ≡ run_line names (Set last) ++ set_lines names front
  first-text b e =
      ap (λ t. set_lines names (with_last_first t sets)) e
      ∙ ap (λ l. set_lines names (drop (length l - 1) l ++ take (length l - 1) l)) is
      ∙ ap (set_lines names) (last_first-are front last)

  pub behind-text : (b : Bool) → b ≡ false → set_lines names (with_last_first b sets) ≡ set_lines names front ++ run_line names (Set last)
  behind-text b e =
      ap (λ t. set_lines names (with_last_first t sets)) e
      ∙ ap (set_lines names) is
      ∙ flat_map-append (λ s. run_line names (Set s)) front (last ∷ [])
      ∙ ap (λ l. set_lines names front ++ l) (append-nil (run_line names (Set last)))

-- the lines of the others, as they are printed below the empty set
pub text-others : (names : List Name) (r : Rules) (front : List (List ℕ)) (last : List ℕ) (limit : ℕ) (s : List ℕ) → limit ≡ size_of r → s ≡ [] → listed_in r ≡ front ++ last ∷ []
    → set_lines names (filter (is_other r last) (below (may_of r) limit s)) ≡ set_lines names front
text-others names r front last limit s at none is =
    ap (λ n. set_lines names (filter (is_other r last) (below (may_of r) n s))) at
    ∙ ap (λ t. set_lines names (filter (is_other r last) (below (may_of r) (size_of r) t))) none
    ∙ ap (set_lines names) (others-are r (below (may_of r) (size_of r) []) front last (walk_sets r).ordered is)

module _ (r : Rules) (last : List ℕ) (h : EndsIn (listed_in r) last) where
  found : IsSelection (size_of r) last × ((may_of r last ≡ true) × (is_whole (whole_of r) last ≡ true))
  found = ((walk_sets r).exact last).0 (subst (λ l. Contains l last) (sym h.same) (Contains-push h.front last))

  pub last-selection : IsSelection (size_of r) last
  last-selection = found.0

  some-positions : (s : List ℕ) → is_whole (whole_of r) s ≡ true → 0 < length s
  some-positions [] e = absurd (let f : false ≡ true = e in cc)
  some-positions (p ∷ s) e = omega arith

  pub last-some : 0 < length last
  last-some = some-positions last found.1.1
