-- Sets that say of each position whether it is a member, and their members in order.
use Rattle.std.proofs.Common.{◌≡◌, ℕ, zero, suc, ◌+◌, ◌<◌, ◌≤◌, List, [], ◌∷◌, ◌++◌, length, get_or, set, map, take, refl, sym, ◌∙◌, ap, subst, arith, Bool, true, false, cond, Option, None, Some, ◌⊎◌, inl, inr, ◌↔◌, All, Contains, length-append, append-nil, length-take}
use Rattle.std.specs.Prelude.{◌&&◌, filter, nat_le, not, sum_by, Vec}
use Rattle.std.specs.List.{list_all, list_any}
use Rattle.std.proofs.lemmas.Bool.{and_parts, and_from}
use Rattle.std.proofs.lemmas.List.{take_more, map-append}
use Rattle.std.proofs.Math.ListN.{get_or-append}
use Rattle.std.proofs.lemmas.List.Elements.{All-push, All-weaker, All-head, All-tail, Contains-append_left, Contains-append_right, Contains-append_cases}
use Rattle.hack_base.proofs.Steps.{all_one_more, all_fail, seen-next, row_items}
use Rattle.std.proofs.lemmas.List.Folds.{list_all-append}
use Rattle.std.proofs.lemmas.List.Sums.{sum_by-cons, sum_by-append}
use Rattle.hack_samples.specs.Sets.{has, has_one_of, rows_of}
use Rattle.hack_base.proofs.Members.{Contains-nil, Contains-cons_cases, Contains-head, Contains-tail}
use Rattle.hack_base.proofs.Passes.{some_passes, any_passes, all_pass, each_passes}
use Rattle.hack_features.specs.declared.rules.Rules.{Rules}
use Rattle.hack_features.specs.Tables.{keeps_depth, is_lean, is_exclusive, count_at}
use Rattle.hack_routes.specs.Rows.{cell, bit}
use Rattle.hack_features.specs.View.{may_of}
use Rattle.hack_features.specs.Samples.{positions_from, positions_of}
use Rattle.hack_features.proofs.FrontLemmas.{all-same}

pub positions-push : (k : ℕ) (s : List Bool) (b : Bool) → positions_from k (s ++ b ∷ []) ≡ positions_from k s ++ cond b ((k + length s) ∷ []) []
positions-push k [] b = ap (λ j. cond b (j ∷ []) []) (let e : k ≡ k + zero = omega arith in e)
positions-push k (true ∷ s) b = ap (λ l. k ∷ l) (positions-push (k + 1) s b ∙ ap (λ j. positions_from (k + 1) s ++ cond b (j ∷ []) []) (let e : (k + 1) + length s ≡ k + suc (length s) = omega arith in e))
positions-push k (false ∷ s) b = positions-push (k + 1) s b ∙ ap (λ j. positions_from (k + 1) s ++ cond b (j ∷ []) []) (let e : (k + 1) + length s ≡ k + suc (length s) = omega arith in e)

-- a set with one more member has it somewhere among the others
record Inserted (k : ℕ) (s : List Bool) (p : ℕ) : Type 0 where
  front : List ℕ
  behind : List ℕ
  before : positions_from k s ≡ front ++ behind
  after : positions_from k (set s p true) ≡ front ++ (k + p) ∷ behind

not_both : (b : Bool) → b ≡ true → b ≡ false → ⊥
not_both b t f = let e : true ≡ false = sym t ∙ f in cc

inserted : (k : ℕ) (s : List Bool) (p : ℕ) → p < length s → has s p ≡ false → Inserted k s p
inserted k [] p lt h = absurd (omega arith)
inserted k (true ∷ s) zero lt h = absurd (not_both true refl h)
inserted k (false ∷ s) zero lt h = record { front = []; behind = positions_from (k + 1) s; before = refl; after = ap (λ j. j ∷ positions_from (k + 1) s) (let e : k ≡ k + zero = omega arith in e) }
inserted k (true ∷ s) (suc p) lt h =
    let r = inserted (k + 1) s p (omega arith) h in
    record {
      front = k ∷ r.front;
      behind = r.behind;
      before = ap (λ l. k ∷ l) r.before;
      after = ap (λ l. k ∷ l) (r.after ∙ ap (λ j. r.front ++ j ∷ r.behind) (let e : (k + 1) + p ≡ k + suc p = omega arith in e));
    }
inserted k (false ∷ s) (suc p) lt h =
    let r = inserted (k + 1) s p (omega arith) h in
    record {
      front = r.front;
      behind = r.behind;
      before = r.before;
      after = r.after ∙ ap (λ j. r.front ++ j ∷ r.behind) (let e : (k + 1) + p ≡ k + suc p = omega arith in e);
    }

-- no test depends on where among the others a position is
module _ (xs ys : List ℕ) (p : ℕ) where
  last : List ℕ
  last = (xs ++ ys) ++ p ∷ []

  and-last : (a b c : Bool) → (a && (b && c)) ≡ ((a && c) && (b && true))
  and-last true true true = refl
  and-last true true false = refl
  and-last true false true = refl
  and-last true false false = refl
  and-last false b c = refl

  all-among : (f : ℕ → Bool) → list_all f (xs ++ p ∷ ys) ≡ list_all f ((xs ++ ys) ++ p ∷ [])
  all-among f =
      list_all-append f xs (p ∷ ys)
      ∙ and-last (list_all f xs) (f p) (list_all f ys)
      ∙ ap (λ b. b && (f p && true)) (sym (list_all-append f xs ys))
      ∙ sym (list_all-append f (xs ++ ys) (p ∷ []))

  sum-among : (f : ℕ → ℕ) → sum_by f (xs ++ p ∷ ys) ≡ sum_by f ((xs ++ ys) ++ p ∷ [])
  sum-among f = omega (arith, sum_by-append f xs (p ∷ ys), sum_by-cons f p ys, sum_by-append f (xs ++ ys) (p ∷ []), sum_by-append f xs ys, sum_by-cons f p [])

  length-among : length (xs ++ p ∷ ys) ≡ length ((xs ++ ys) ++ p ∷ [])
  length-among = omega (arith, length-append xs (p ∷ ys), length-append (xs ++ ys) (p ∷ []), length-append xs ys)

  depth-among : (depth : Option ℕ) → keeps_depth depth (xs ++ p ∷ ys) ≡ keeps_depth depth ((xs ++ ys) ++ p ∷ [])
  depth-among None = refl
  depth-among (Some most) = ap (λ n. nat_le n most) length-among

  pub may-among : (r : Rules) → may_of r (xs ++ p ∷ ys) ≡ may_of r ((xs ++ ys) ++ p ∷ [])
  may-among r =
      let depth = r.given.depth in
      let hits = rows_of r.tables.hits.items in
      let spares = rows_of r.tables.spares.items in
      let one : List ℕ = xs ++ p ∷ ys in
      let two : List ℕ = (xs ++ ys) ++ p ∷ [] in
      let exclusive : is_exclusive hits one ≡ is_exclusive hits two =
      all-same (λ row. nat_le (sum_by (count_at row) one) 1) (λ row. nat_le (sum_by (count_at row) two) 1) hits (λ row. ap (λ n. nat_le n 1) (sum-among (count_at row))) in
      let lean : is_lean spares one ≡ is_lean spares two =
      all-same (λ x. list_all (λ y. not (cell spares x y)) one) (λ x. list_all (λ y. not (cell spares x y)) two) one (λ x. all-among (λ y. not (cell spares x y)))
      ∙ all-among (λ x. list_all (λ y. not (cell spares x y)) two) in
      ap (λ b. b && (is_exclusive hits one && is_lean spares one)) (depth-among depth)
      ∙ ap (λ b. keeps_depth depth two && (b && is_lean spares one)) exclusive
      ∙ ap (λ b. keeps_depth depth two && (is_exclusive hits two && b)) lean

-- a member that is added among the others may be added after them instead
pub may-added : (r : Rules) (s : List Bool) (p : ℕ) → p < length s → has s p ≡ false → may_of r (positions_of s ++ p ∷ []) ≡ may_of r (positions_of (set s p true))
may-added r s p lt h =
    let i = inserted 0 s p lt h in
    let zero-less : p ≡ 0 + p = omega arith in
    ap (λ l. may_of r (l ++ p ∷ [])) i.before ∙ sym (may-among i.front i.behind p r) ∙ ap (λ j. may_of r (i.front ++ j ∷ i.behind)) zero-less ∙ ap (may_of r) (sym i.after)

-- the members are the positions of what is true
pub member-from : (k : ℕ) (s : List Bool) (p : ℕ) → Contains (positions_from k s) p → (q : ℕ) × (k + q ≡ p) × (has s q ≡ true)
member-from k [] p c = absurd (Contains-nil p c)
member-from k (true ∷ s) p c =
    elim (Contains-cons_cases k (positions_from (k + 1) s) p c) [
      | inl e ↦ (0, (let z : k + zero ≡ p = omega arith in z), refl)
      | inr w ↦ let r = member-from (k + 1) s p w in (suc r.0, (let e = r.1 in let z : k + suc r.0 ≡ p = omega arith in z), r.2)
    ]
member-from k (false ∷ s) p c = let r = member-from (k + 1) s p c in (suc r.0, (let e = r.1 in let z : k + suc r.0 ≡ p = omega arith in z), r.2)

pub member-to : (k : ℕ) (s : List Bool) (q : ℕ) → has s q ≡ true → Contains (positions_from k s) (k + q)
member-to k [] q h = absurd (not_both _ h refl)
member-to k (true ∷ s) zero h = subst (Contains (positions_from k (true ∷ s))) (let e : k ≡ k + zero = omega arith in e) (Contains-head k (positions_from (k + 1) s))
member-to k (false ∷ s) zero h = absurd (not_both _ h refl)
member-to k (true ∷ s) (suc q) h = subst (Contains (positions_from k (true ∷ s))) (let e : (k + 1) + q ≡ k + suc q = omega arith in e) (Contains-tail k (positions_from (k + 1) s) ((k + 1) + q) (member-to (k + 1) s q h))
member-to k (false ∷ s) (suc q) h = subst (Contains (positions_from k (false ∷ s))) (let e : (k + 1) + q ≡ k + suc q = omega arith in e) (member-to (k + 1) s q h)

pub member_iff : (s : List Bool) (p : ℕ) → Contains (positions_of s) p ↔ (has s p ≡ true)
member_iff s p =
    let zero-less : 0 + p ≡ p = omega arith in (
      λ c. let r = member-from 0 s p c in subst (λ q. has s q ≡ true) (let e = r.1 in let z : r.0 ≡ p = omega arith in z) r.2,
      λ h. subst (Contains (positions_of s)) zero-less (member-to 0 s p h),
    )

-- two truth values are the same if each implies the other
pub both_told : (a b : Bool) → (a ≡ true → b ≡ true) → (b ≡ true → a ≡ true) → a ≡ b
both_told true b there back = sym (there refl)
both_told false true there back = back refl
both_told false false there back = refl

-- some member of t is in s exactly where some member of s is in t
pub meet-either : (s t : List Bool) → has_one_of s (positions_of t) ≡ list_any (bit t) (positions_of s)
meet-either s t =
    both_told _ _
    (λ h. let p = some_passes (has s) (positions_of t) h in any_passes (bit t) (positions_of s) p.0 ((member_iff s p.0).1 p.2) ((member_iff t p.0).0 p.1))
    (λ h. let p = some_passes (bit t) (positions_of s) h in any_passes (has s) (positions_of t) p.0 ((member_iff t p.0).1 p.2) ((member_iff s p.0).0 p.1))

-- what a loop over a set has seen after one more place
pub seen-member : (s : List Bool) (k : ℕ) → k < length s → positions_of (take (k + 1) s) ≡ positions_of (take k s) ++ cond (has s k) (k ∷ []) []
seen-member s k lt =
    ap positions_of (take_more s k false lt)
    ∙ positions-push 0 (take k s) (has s k)
    ∙ ap (λ j. positions_of (take k s) ++ cond (has s k) (j ∷ []) []) (let e : 0 + length (take k s) ≡ k = omega (arith, length-take k s) in e)

pub seen-hit : (s : List Bool) (k : ℕ) → k < length s → has s k ≡ true → positions_of (take (k + 1) s) ≡ positions_of (take k s) ++ k ∷ []
seen-hit s k lt h = seen-member s k lt ∙ ap (λ b. positions_of (take k s) ++ cond b (k ∷ []) []) h

pub seen-missed : (s : List Bool) (k : ℕ) → k < length s → has s k ≡ false → positions_of (take (k + 1) s) ≡ positions_of (take k s)
seen-missed s k lt h = seen-member s k lt ∙ ap (λ b. positions_of (take k s) ++ cond b (k ∷ []) []) h ∙ append-nil (positions_of (take k s))

-- the members are as many as the flags that are true
pub length-positions : (k : ℕ) (s : List Bool) → length (filter (λ b. b) s) ≡ length (positions_from k s)
length-positions k [] = refl
length-positions k (true ∷ s) = let e = length-positions (k + 1) s in omega (arith, e)
length-positions k (false ∷ s) = length-positions (k + 1) s

none-next-by : (g : ℕ → Bool) (s : List Bool) (k : ℕ) → k < length s → (b : Bool) → has s k ≡ b → (b && g k) ≡ false → list_all (λ q. not (g q)) (positions_of (take k s)) ≡ true
    → list_all (λ q. not (g q)) (positions_of (take (k + 1) s)) ≡ true
none-next-by g s k lt true e h all = ap (list_all (λ q. not (g q))) (seen-hit s k lt e) ∙ all_one_more (λ q. not (g q)) (positions_of (take k s)) k all (ap not h)
none-next-by g s k lt false e h all = ap (list_all (λ q. not (g q))) (seen-missed s k lt e) ∙ all

-- no member so far has the property, and the next place neither
pub none-next : (g : ℕ → Bool) (s : List Bool) (k : ℕ) → k < length s → (has s k && g k) ≡ false → list_all (λ q. not (g q)) (positions_of (take k s)) ≡ true
    → list_all (λ q. not (g q)) (positions_of (take (k + 1) s)) ≡ true
none-next g s k lt h all = none-next-by g s k lt (has s k) refl h all

-- a member that has the property
pub none-stop : (g : ℕ → Bool) (s : List Bool) (k : ℕ) → (has s k && g k) ≡ true → list_all (λ q. not (g q)) (positions_of s) ≡ false
none-stop g s k h = let w = and_parts (has s k) (g k) h in all_fail (λ q. not (g q)) (positions_of s) k ((member_iff s k).1 w.0) (ap not w.1)

sum-next-by : (f : ℕ → ℕ) (s : List Bool) (k : ℕ) → k < length s → (b : Bool) → has s k ≡ b → sum_by f (positions_of (take (k + 1) s)) ≡ sum_by f (positions_of (take k s)) + cond b (f k) 0
sum-next-by f s k lt true e = ap (sum_by f) (seen-hit s k lt e) ∙ (let z : sum_by f (positions_of (take k s) ++ k ∷ []) ≡ sum_by f (positions_of (take k s)) + f k = omega (arith, sum_by-append f (positions_of (take k s)) (k ∷ []), sum_by-cons f k []) in z)
sum-next-by f s k lt false e = ap (sum_by f) (seen-missed s k lt e) ∙ (let z : sum_by f (positions_of (take k s)) ≡ sum_by f (positions_of (take k s)) + 0 = omega arith in z)

pub sum-next : (f : ℕ → ℕ) (s : List Bool) (k : ℕ) → k < length s → sum_by f (positions_of (take (k + 1) s)) ≡ sum_by f (positions_of (take k s)) + cond (has s k) (f k) 0
sum-next f s k lt = sum-next-by f s k lt (has s k) refl

pub sum-take : (f : ℕ → ℕ) (k n : ℕ) (s : List Bool) → sum_by f (positions_from k (take n s)) ≤ sum_by f (positions_from k s)
sum-take f k zero s = omega arith
sum-take f k (suc n) [] = omega arith
sum-take f k (suc n) (true ∷ s) = omega (arith, sum_by-cons f k (positions_from (k + 1) (take n s)), sum_by-cons f k (positions_from (k + 1) s), sum-take f (k + 1) n s)
sum-take f k (suc n) (false ∷ s) = sum-take f (k + 1) n s

-- the row of a position is false at it and at the others, and their rows are false at it
abbrev pub clear_of : List (List Bool) → ℕ → List ℕ → Bool
clear_of rows p s = (not (cell rows p p) && list_all (λ q. not (cell rows p q)) s) && list_all (λ q. not (cell rows q p)) s

-- one more position keeps a lean set lean where it is clear of the others
pub lean-more : (rows : List (List Bool)) (s : List ℕ) (p : ℕ) → is_lean rows s ≡ true → is_lean rows (s ++ p ∷ []) ≡ clear_of rows p s
lean-more rows s p h =
    let t : List ℕ = s ++ p ∷ [] in
    let last : Contains t p = Contains-append_right s (p ∷ []) p (Contains-head p []) in
    both_told _ _
    (λ e.
    let each : (x : ℕ) → Contains t x → (y : ℕ) → Contains t y → not (cell rows x y) ≡ true =
    λ x cx y cy. each_passes (λ q. not (cell rows x q)) t (each_passes (λ x. list_all (λ q. not (cell rows x q)) t) t e x cx) y cy in
    and_from (not (cell rows p p) && list_all (λ q. not (cell rows p q)) s) _
    (and_from (not (cell rows p p)) _ (each p last p last) (all_pass (λ q. not (cell rows p q)) s (λ q c. each p last q (Contains-append_left s (p ∷ []) q c))))
    (all_pass (λ q. not (cell rows q p)) s (λ q c. each q (Contains-append_left s (p ∷ []) q c) p last)))
    (λ e.
    let w = and_parts (not (cell rows p p) && list_all (λ q. not (cell rows p q)) s) _ e in
    let v = and_parts (not (cell rows p p)) _ w.0 in
    let one : (x : ℕ) → (Contains s x) ⊎ (x ≡ p) → (y : ℕ) → (Contains s y) ⊎ (y ≡ p) → not (cell rows x y) ≡ true =
    λ x cx y cy. elim cx [
      | inl a ↦ elim cy [
        | inl b ↦ each_passes (λ q. not (cell rows x q)) s (each_passes (λ x. list_all (λ q. not (cell rows x q)) s) s h x a) y b
        | inr f ↦ subst (λ z. not (cell rows x z) ≡ true) (sym f) (each_passes (λ q. not (cell rows q p)) s w.1 x a)
      ]
      | inr g ↦ subst (λ z. not (cell rows z y) ≡ true) (sym g) (elim cy [
        | inl b ↦ each_passes (λ q. not (cell rows p q)) s v.1 y b
        | inr f ↦ subst (λ z. not (cell rows p z) ≡ true) (sym f) v.0
      ])
    ] in
    let cases : (x : ℕ) → Contains t x → (Contains s x) ⊎ (x ≡ p) =
    λ x c. elim (Contains-append_cases s (p ∷ []) x c) [
      | inl a ↦ inl a
      | inr b ↦ elim (Contains-cons_cases p [] x b) [ inl e ↦ inr (sym e) | inr n ↦ absurd (Contains-nil x n) ]
    ] in
    all_pass (λ x. list_all (λ q. not (cell rows x q)) t) t (λ x c. all_pass (λ q. not (cell rows x q)) t (λ y d. one x (cases x c) y (cases y d))))

-- one more turn of a loop that maps a list
pub step-map : {X Y : Type 0} (f : X → Y) (done : List Y) (b : Y) (all : List X) (k : ℕ) (x : X) → done ≡ map f (take k all) → take (k + 1) all ≡ take k all ++ x ∷ [] → b ≡ f x
    → done ++ b ∷ [] ≡ map f (take (k + 1) all)
step-map f done b all k x is more e =
    ap (λ l. l ++ b ∷ []) is ∙ ap (λ y. map f (take k all) ++ y ∷ []) e ∙ sym (map-append f (take k all) (x ∷ [])) ∙ ap (map f) (sym more)

-- the rows of vectors that a loop has seen
pub rows-next : {A Z : Type 0} (items all : List (Vec A Z)) → items ≡ all → (k : ℕ) (x : Vec A Z) → k < length items → x ≡ get_or items k x → take (k + 1) (rows_of all) ≡ take k (rows_of all) ++ x.items ∷ []
rows-next items all same k x lt is = subst (λ l. take (k + 1) (rows_of l) ≡ take k (rows_of l) ++ x.items ∷ []) same (seen-next row_items items k x lt is)

-- sets at places, after one more
pub sets-within : (old more new : List (List ℕ)) (places : List ℕ) (place : ℕ) → new ≡ old ++ more → All (λ p. p < length old) places → place < length new → All (λ p. p < length new) (places ++ place ∷ [])
sets-within old more new places place e h lt =
    All-push (λ p. p < length new) places place (All-weaker (λ p. p < length old) (λ p. p < length new) (λ p q. omega (arith, ap length e, length-append old more)) places h) lt

sets-kept : (old more new : List (List ℕ)) → new ≡ old ++ more → (places : List ℕ) → All (λ p. p < length old) places → map (λ p. get_or new p []) places ≡ map (λ p. get_or old p []) places
sets-kept old more new e [] h = refl
sets-kept old more new e (p ∷ places) h =
    ap (λ x. x ∷ map (λ p. get_or new p []) places) (ap (λ l. get_or l p []) e ∙ get_or-append old more [] p (All-head (λ q. q < length old) p places h))
    ∙ ap (λ l. get_or old p [] ∷ l) (sets-kept old more new e places (All-tail (λ q. q < length old) p places h))

pub sets-same : (old more new : List (List ℕ)) (places : List ℕ) (place : ℕ) → new ≡ old ++ more → All (λ p. p < length old) places → (all : List (List Bool)) (k : ℕ) (x : List Bool)
    → map (λ p. get_or old p []) places ≡ map positions_of (take k all) → take (k + 1) all ≡ take k all ++ x ∷ [] → get_or new place [] ≡ positions_of x
    → map (λ p. get_or new p []) (places ++ place ∷ []) ≡ map positions_of (take (k + 1) all)
sets-same old more new places place e h all k x is next here =
    map-append (λ p. get_or new p []) places (place ∷ [])
    ∙ step-map positions_of (map (λ p. get_or new p []) places) (get_or new place []) all k x (sets-kept old more new e places h ∙ is) next here
