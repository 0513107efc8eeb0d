-- Paths in a set, and in order.
use Rattle.std.proofs.Common.{◌≡◌, ℕ, List, [], ◌∷◌, Bool, true, false, get_or, refl, sym, ap, ◌∙◌, Ordering, Less, Equal, Greater, nat_cmp}
use Rattle.std.specs.Prelude.{◌||◌, fold}
use Rattle.std.specs.List.{All, list_any}
use Rattle.std.specs.Str.{bytes_eq}
use Rattle.std.specs.List.Sorted.{IsStrictlySortedBy}
use Rattle.std.proofs.lemmas.List.Elements.{All-from_recursion, recursion_from_All, All-cons}
use Rattle.std.proofs.lemmas.Cmp.{nat_list_cmp_total}
use Rattle.std.proofs.lemmas.Map.Views.{All-insert_key}
use Rattle.std.proofs.lemmas.Map.Lookups.{exact_bytes}
use Rattle.hack_base.specs.Names.{Name, names_behind}
use Rattle.hack_private_crates.specs.Members.{in_order}
use Rattle.std.specs.Borrow.{Bor}
use Rattle.std.specs.BTreeSet.{insert_key}
use Rattle.std.specs.Cmp.Lexicographic.{slice_cmp}
use Rattle.std.specs.Ordering.{match_ordering, ordering_reverse}

texts-match : (o : Ordering) (a b c : List (Bor (List ℕ))) → names_behind (match_ordering o a b c) ≡ match_ordering o (names_behind a) (names_behind b) (names_behind c)
texts-match Less a b c = refl
texts-match Equal a b c = refl
texts-match Greater a b c = refl

-- a path put among references is its text put among texts
pub insert_key-texts : (xs : List (Bor (List ℕ))) (x : Bor (List ℕ)) → names_behind (insert_key (λ a b. slice_cmp nat_cmp a.now b.now) xs x) ≡ insert_key (slice_cmp nat_cmp) (names_behind xs) x.now
insert_key-texts [] x = refl
insert_key-texts (y ∷ ys) x = texts-match (slice_cmp nat_cmp x.now y.now) _ _ _ ∙ rw (insert_key-texts ys x)

-- ---- paths in order rise, and are the paths given

abbrev R : Name → Name → Ordering
R = slice_cmp nat_cmp

sorted_by : (x : Name) (xs : List Name) (k : Name) (r : Ordering) → R k x ≡ r → IsStrictlySortedBy R (x ∷ xs) → IsStrictlySortedBy R (insert_key R xs k)
    → IsStrictlySortedBy R (match_ordering r (k ∷ x ∷ xs) (x ∷ xs) (x ∷ insert_key R xs k))
unfolding IsStrictlySortedBy
sorted_by x xs k Less is h rest =
    let above = All-from_recursion (λ y. R x y ≡ Less) xs h.0 in
    let all : All (λ y. R k y ≡ Less) xs = λ i d lt. nat_list_cmp_total.trans k x (get_or xs i d) is (above i d lt) in
    (recursion_from_All (λ y. R k y ≡ Less) (x ∷ xs) (All-cons (λ y. R k y ≡ Less) x xs is all), h)
sorted_by x xs k Equal is h rest = h
sorted_by x xs k Greater is h rest =
    let below : R x k ≡ Less = nat_list_cmp_total.antisymm x k ∙ ap ordering_reverse is in
    let above = All-from_recursion (λ y. R x y ≡ Less) xs h.0 in
    (recursion_from_All (λ y. R x y ≡ Less) (insert_key R xs k) (All-insert_key R k (λ y. R x y ≡ Less) xs above below), rest)

insert-sorted : (ks : List Name) (k : Name) → IsStrictlySortedBy R ks → IsStrictlySortedBy R (insert_key R ks k)
unfolding IsStrictlySortedBy
insert-sorted [] k h = (tt, tt)
insert-sorted (x ∷ xs) k h = sorted_by x xs k (R k x) refl h (insert-sorted xs k h.1)

fold-sorted : (ps ks : List Name) → IsStrictlySortedBy R ks → IsStrictlySortedBy R (fold (insert_key R) ks ps)
fold-sorted [] ks h = h
fold-sorted (p ∷ ps) ks h = fold-sorted ps (insert_key R ks p) (insert-sorted ks p h)

pub in_order-rises : (ps : List Name) → IsStrictlySortedBy (slice_cmp nat_cmp) (in_order ps)
unfolding IsStrictlySortedBy
in_order-rises ps = fold-sorted ps [] tt

abbrev has : Name → List Name → Bool
has p ks = list_any (bytes_eq p) ks

or_none : (b : Bool) → (b || false) ≡ b
or_none true = refl
or_none false = refl

or_twice : (b c : Bool) → (b || c) ≡ (b || (b || c))
or_twice true c = refl
or_twice false c = refl

or_swap : (a b c : Bool) → (a || (b || c)) ≡ (b || (a || c))
or_swap true true c = refl
or_swap true false c = refl
or_swap false b c = refl

or_move : (a b c : Bool) → ((a || b) || c) ≡ (b || (a || c))
or_move true true c = refl
or_move true false c = refl
or_move false b c = refl

has_by : (p x : Name) (xs : List Name) (k : Name) (r : Ordering) → R k x ≡ r → has p (insert_key R xs k) ≡ (bytes_eq p k || has p xs)
    → has p (match_ordering r (k ∷ x ∷ xs) (x ∷ xs) (x ∷ insert_key R xs k)) ≡ (bytes_eq p k || (bytes_eq p x || has p xs))
has_by p x xs k Less is more = refl
has_by p x xs k Equal is more =
    let same : k ≡ x = exact_bytes k x is in
    or_twice (bytes_eq p x) (has p xs) ∙ ap (λ y. bytes_eq p y || (bytes_eq p x || has p xs)) (sym same)
has_by p x xs k Greater is more = ap (λ b. bytes_eq p x || b) more ∙ or_swap (bytes_eq p x) (bytes_eq p k) (has p xs)

insert-has : (p : Name) (ks : List Name) (k : Name) → has p (insert_key R ks k) ≡ (bytes_eq p k || has p ks)
insert-has p [] k = refl
insert-has p (x ∷ xs) k = has_by p x xs k (R k x) refl (insert-has p xs k)

fold-has : (p : Name) (ps ks : List Name) → has p (fold (insert_key R) ks ps) ≡ (has p ks || has p ps)
fold-has p [] ks = sym (or_none (has p ks))
fold-has p (q ∷ qs) ks =
    fold-has p qs (insert_key R ks q) ∙ ap (λ b. b || has p qs) (insert-has p ks q) ∙ or_move (bytes_eq p q) (has p ks) (has p qs)

pub in_order-has : (ps : List Name) (p : Name) → list_any (bytes_eq p) (in_order ps) ≡ list_any (bytes_eq p) ps
in_order-has ps p = fold-has p ps []
