-- What loops over the positions of a set, and over sets, have found at their end.
use Rattle.std.proofs.Common.{◌≡◌, ◌<◌, ◌≤◌, ℕ, List, [], length, get_or, arith, Bool, true, false, sym, ◌∙◌, subst, Contains, All, inl, inr, zero, suc, ◌⊎◌, ◌++◌}
use Rattle.std.specs.Prelude.{Vec}
use Rattle.std.proofs.lemmas.Bool.{false≢true, cases_lt, cases_Bool}
use Rattle.std.proofs.lemmas.List.{get_or_past, get_or_default, length-map}
use Rattle.hack_conflicts.specs.Sets.{Has, mark, IsWithin, IsInside, rows_of}
use Rattle.std.proofs.lemmas.List.Elements.{All-from_get_or, Contains-get_or, Contains-append_left}
use borrow.Author.Count.{below_more}

-- a member lies below the length
pub has_below : (s : List Bool) (p : ℕ) → Has s p → p < length s
has_below s p h = elim (cases_lt p (length s)) [ inl lt ↦ lt | inr le ↦ absurd (false≢true (sym (get_or_past s p false le) ∙ h)) ]

-- what holds of each member below the length holds of each member
pub within_all : (s t : List Bool) (n : ℕ) → length s ≤ n → ((p : ℕ) → p < n → Has s p → Has t p) → IsWithin s t
within_all s t n le h p has = let lt : p < length s = has_below s p has in h p (omega arith) has

-- how many lists of items there are
pub length-rows : {X Z : Type 0} (lists : List (Vec X Z)) → length (rows_of lists) ≡ length lists
length-rows lists = length-map lists (λ l. l.items)

-- none of the sets, where it is none at any place
pub no_set : (P : List Bool → Type 0) (sets : List (List Bool)) (n : ℕ) → length sets ≤ n → ((k : ℕ) → k < n → P (get_or sets k []) → ⊥) → (t : List Bool) → Contains sets t → P t → ⊥
no_set P sets n le h t (k, lt, is) holds = h k (omega arith) (subst P (sym is ∙ get_or_default sets k t [] lt) holds)

-- each of the sets, where it is each at its place
pub each_set : (P : List Bool → Type 0) (sets : List (List Bool)) (n : ℕ) → length sets ≤ n → ((k : ℕ) → k < n → P (get_or sets k [])) → All P sets
each_set P sets n le h = All-from_get_or P sets [] (λ i lt. h i (omega arith))

-- a set lies inside another, or has a member that the other lacks
search_below : (s t : List Bool) (n : ℕ) → ((p : ℕ) → p < n → Has s p → Has t p) ⊎ ((p : ℕ) × Has s p × ¬ Has t p)
search_below s t zero = inl (λ p lt. absurd (omega arith))
search_below s t (suc n) = one (search_below s t n) (cases_Bool (mark s n)) (cases_Bool (mark t n))
  where
    one : ((p : ℕ) → p < n → Has s p → Has t p) ⊎ ((p : ℕ) × Has s p × ¬ Has t p) → (mark s n ≡ true) ⊎ (mark s n ≡ false) → (mark t n ≡ true) ⊎ (mark t n ≡ false) → ((p : ℕ) → p < suc n → Has s p → Has t p) ⊎ ((p : ℕ) × Has s p × ¬ Has t p)
    one (inr w) a b = inr w
    one (inl h) a (inl b) = inl (λ p lt. below_more (λ k. Has s k → Has t k) n h (λ _. b) p (omega arith))
    one (inl h) (inl a) (inr b) = inr (n, a, λ e. false≢true (sym b ∙ e))
    one (inl h) (inr a) (inr b) = inl (λ p lt. below_more (λ k. Has s k → Has t k) n h (λ e. absurd (false≢true (sym a ∙ e))) p (omega arith))

pub within_or : (s t : List Bool) → IsWithin s t ⊎ ((p : ℕ) × Has s p × ¬ Has t p)
within_or s t = elim (search_below s t (length s)) [ inl h ↦ inl (within_all s t (length s) (omega arith) h) | inr w ↦ inr w ]

pub inside_left : (a b : List (List Bool)) (s : List Bool) → IsInside a s → IsInside (a ++ b) s
inside_left a b s (t, there, w) = (t, Contains-append_left a b t there, w)

-- a set at a place is one of them
pub contains_at : {Z : Type 0} (sets : List (Vec Bool Z)) (place : ℕ) → place < length sets → Contains (rows_of sets) (get_or (rows_of sets) place [])
contains_at sets place lt = Contains-get_or (rows_of sets) place [] (let same : length (rows_of sets) ≡ length sets = length-rows sets in omega arith)
