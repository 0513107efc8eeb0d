-- What the tables permit stays permitted after a position is taken out, and inside a permitted set.
use Rattle.std.specs.Prelude.{◌≡◌, ◌<◌, ◌≤◌, ℕ, zero, suc, ◌+◌, List, [], ◌∷◌, length, replicate, Bool, true, false, not, IsTrue, Option, None, Some, All, refl, nat_le, sum_by}
use Rattle.std.specs.List.{remove, list_all}
use Rattle.std.proofs.Common.{arith, take, drop, add-one, sym, ◌∙◌, subst}
use Rattle.std.proofs.lemmas.Bool.{leb-true, le-leb, and_parts, and_from}
use Rattle.std.proofs.lemmas.List.Edits.{length-remove}
use Rattle.std.proofs.lemmas.List.Elements.{All-append, All-take, All-drop, All-weaker, All-nil, All-cons, All-head, All-tail}
use Rattle.std.proofs.lemmas.List.Sums.{AllPass-from_list_all, list_all-from_AllPass, sum_by-append, sum_by-cons, sum_by-take-drop, sum_by-drop_more}
use Rattle.hack_features.specs.declared.rules.Rules.{Rules}
use Rattle.hack_features.specs.Tables.{count_at, keeps_depth, is_lean, is_exclusive}
use Rattle.hack_routes.specs.Rows.{cell}
use Rattle.hack_features.specs.View.{may_of, size_of}
use Rattle.hack_features.specs.Samples.{positions_from, positions_of, IsSame}
use Rattle.hack_samples.specs.Sets.{IsInside, rows_of}

-- what holds of each element of a list still does after one is taken out
All-remove : {X : Type 0} (P : X → Type 0) (s : List X) (i : ℕ) → All P s → All P (remove s i)
All-remove P s i h = All-append P (take i s) (drop (suc i) s) (All-take P i s h) (All-drop P (suc i) s h)

-- a sum is no greater after one element is taken out
sum_by-remove : (f : ℕ → ℕ) (s : List ℕ) (i : ℕ) → i < length s → sum_by f (remove s i) ≤ sum_by f s
sum_by-remove f s i at = omega (arith, sum_by-append f (take i s) (drop (suc i) s), sum_by-take-drop f s i, rw add-one at (sum_by-drop_more f s i 0 at))

keeps_depth-empty : (depth : Option ℕ) → keeps_depth depth [] ≡ true
keeps_depth-empty None = refl
keeps_depth-empty (Some most) = le-leb 0 most (omega arith)

keeps_depth-remove : (depth : Option ℕ) (s : List ℕ) (i : ℕ) → i < length s → keeps_depth depth s ≡ true → keeps_depth depth (remove s i) ≡ true
keeps_depth-remove None s i at h = refl
keeps_depth-remove (Some most) s i at h = le-leb (length (remove s i)) most (omega (arith, length-remove s i at, leb-true (length s) most h))

is_exclusive-empty : (rows : List (List ℕ)) → is_exclusive rows [] ≡ true
is_exclusive-empty rows = list_all-from_AllPass (λ row. nat_le (sum_by (count_at row) []) 1) rows (λ k d lt. le-leb 0 1 (omega arith))

is_exclusive-remove : (rows : List (List ℕ)) (s : List ℕ) (i : ℕ) → i < length s → is_exclusive rows s ≡ true → is_exclusive rows (remove s i) ≡ true
is_exclusive-remove rows s i at h =
    list_all-from_AllPass (λ row. nat_le (sum_by (count_at row) (remove s i)) 1) rows
    (All-weaker (λ row. nat_le (sum_by (count_at row) s) 1 ≡ true) (λ row. nat_le (sum_by (count_at row) (remove s i)) 1 ≡ true)
    (λ row e. le-leb (sum_by (count_at row) (remove s i)) 1 (omega (arith, sum_by-remove (count_at row) s i at, leb-true (sum_by (count_at row) s) 1 e))) rows
    (AllPass-from_list_all (λ row. nat_le (sum_by (count_at row) s) 1) rows h))

all-remove : (p : ℕ → Bool) (s : List ℕ) (i : ℕ) → list_all p s ≡ true → list_all p (remove s i) ≡ true
all-remove p s i h = list_all-from_AllPass p (remove s i) (All-remove (λ x. p x ≡ true) s i (AllPass-from_list_all p s h))

is_lean-remove : (rows : List (List Bool)) (s : List ℕ) (i : ℕ) → is_lean rows s ≡ true → is_lean rows (remove s i) ≡ true
is_lean-remove rows s i h =
    all-remove (λ p. list_all (λ q. not (cell rows p q)) (remove s i)) s i
    (list_all-from_AllPass (λ p. list_all (λ q. not (cell rows p q)) (remove s i)) s
    (All-weaker (λ p. list_all (λ q. not (cell rows p q)) s ≡ true) (λ p. list_all (λ q. not (cell rows p q)) (remove s i) ≡ true)
    (λ p e. all-remove (λ q. not (cell rows p q)) s i e) s (AllPass-from_list_all (λ p. list_all (λ q. not (cell rows p q)) s) s h)))

pub may_of-empty : (r : Rules) → may_of r [] ≡ true
may_of-empty r =
    and_from (keeps_depth r.given.depth []) _ (keeps_depth-empty r.given.depth)
    (and_from (is_exclusive (rows_of r.tables.hits.items) []) (is_lean (rows_of r.tables.spares.items) []) (is_exclusive-empty (rows_of r.tables.hits.items)) refl)

pub may_of-remove : (r : Rules) (s : List ℕ) (i : ℕ) → i < length s → IsTrue (may_of r s) → IsTrue (may_of r (remove s i))
may_of-remove r s i at h =
    let w = and_parts (keeps_depth r.given.depth s) _ h in
    let v = and_parts (is_exclusive (rows_of r.tables.hits.items) s) (is_lean (rows_of r.tables.spares.items) s) w.1 in
    and_from (keeps_depth r.given.depth (remove s i)) _ (keeps_depth-remove r.given.depth s i at w.0)
    (and_from (is_exclusive (rows_of r.tables.hits.items) (remove s i)) (is_lean (rows_of r.tables.spares.items) (remove s i))
    (is_exclusive-remove (rows_of r.tables.hits.items) s i at v.0) (is_lean-remove (rows_of r.tables.spares.items) s i v.1))

-- a set whose flags are all false has no members
positions-none : (k n : ℕ) → positions_from k (replicate n false) ≡ []
positions-none k zero = refl
positions-none k (suc n) = positions-none (k + 1) n

pub may-empty : (r : Rules) → may_of r (positions_of (replicate (size_of r) false)) ≡ true
may-empty r = subst (λ s. may_of r s ≡ true) (sym (positions-none 0 (size_of r))) (may_of-empty r)

inside-tail : (b d : Bool) (s t : List Bool) → IsInside (b ∷ s) (d ∷ t) → IsInside s t
inside-tail b d s t h = record { same = (let e = h.same in omega arith); members = λ p e. h.members (suc p) e }

-- what holds of each member of a set holds of each member of a set inside it
members-inside : (P : ℕ → Type 0) (k : ℕ) (s t : List Bool) → IsInside s t → All P (positions_from k t) → All P (positions_from k s)
members-inside P k [] t h a = All-nil P
members-inside P k (b ∷ s) [] h a = absurd (let e = h.same in omega arith)
members-inside P k (true ∷ s) (true ∷ t) h a = All-cons P k (positions_from (k + 1) s) (All-head P k _ a) (members-inside P (k + 1) s t (inside-tail true true s t h) (All-tail P k _ a))
members-inside P k (true ∷ s) (false ∷ t) h a = absurd (let e : false ≡ true = h.members 0 refl in cc)
members-inside P k (false ∷ s) (true ∷ t) h a = members-inside P (k + 1) s t (inside-tail false true s t h) (All-tail P k _ a)
members-inside P k (false ∷ s) (false ∷ t) h a = members-inside P (k + 1) s t (inside-tail false false s t h) a

fewer-inside : (k : ℕ) (s t : List Bool) → IsInside s t → length (positions_from k s) ≤ length (positions_from k t)
fewer-inside k [] t h = omega arith
fewer-inside k (b ∷ s) [] h = absurd (let e = h.same in omega arith)
fewer-inside k (true ∷ s) (true ∷ t) h = omega (arith, fewer-inside (k + 1) s t (inside-tail true true s t h))
fewer-inside k (true ∷ s) (false ∷ t) h = absurd (let e : false ≡ true = h.members 0 refl in cc)
fewer-inside k (false ∷ s) (true ∷ t) h = omega (arith, fewer-inside (k + 1) s t (inside-tail false true s t h))
fewer-inside k (false ∷ s) (false ∷ t) h = fewer-inside (k + 1) s t (inside-tail false false s t h)

sum-inside : (f : ℕ → ℕ) (k : ℕ) (s t : List Bool) → IsInside s t → sum_by f (positions_from k s) ≤ sum_by f (positions_from k t)
sum-inside f k [] t h = omega arith
sum-inside f k (b ∷ s) [] h = absurd (let e = h.same in omega arith)
sum-inside f k (true ∷ s) (true ∷ t) h = omega (arith, sum_by-cons f k (positions_from (k + 1) s), sum_by-cons f k (positions_from (k + 1) t), sum-inside f (k + 1) s t (inside-tail true true s t h))
sum-inside f k (true ∷ s) (false ∷ t) h = absurd (let e : false ≡ true = h.members 0 refl in cc)
sum-inside f k (false ∷ s) (true ∷ t) h = omega (arith, sum_by-cons f k (positions_from (k + 1) t), sum-inside f (k + 1) s t (inside-tail false true s t h))
sum-inside f k (false ∷ s) (false ∷ t) h = sum-inside f (k + 1) s t (inside-tail false false s t h)

depth-inside : (depth : Option ℕ) (s t : List Bool) → IsInside s t → keeps_depth depth (positions_of t) ≡ true → keeps_depth depth (positions_of s) ≡ true
depth-inside None s t i h = refl
depth-inside (Some most) s t i h = le-leb (length (positions_of s)) most (omega (arith, fewer-inside 0 s t i, leb-true (length (positions_of t)) most h))

exclusive-inside : (rows : List (List ℕ)) (s t : List Bool) → IsInside s t → is_exclusive rows (positions_of t) ≡ true → is_exclusive rows (positions_of s) ≡ true
exclusive-inside rows s t i h =
    list_all-from_AllPass (λ row. nat_le (sum_by (count_at row) (positions_of s)) 1) rows
    (All-weaker (λ row. nat_le (sum_by (count_at row) (positions_of t)) 1 ≡ true) (λ row. nat_le (sum_by (count_at row) (positions_of s)) 1 ≡ true)
    (λ row e. le-leb (sum_by (count_at row) (positions_of s)) 1 (omega (arith, sum-inside (count_at row) 0 s t i, leb-true (sum_by (count_at row) (positions_of t)) 1 e))) rows
    (AllPass-from_list_all (λ row. nat_le (sum_by (count_at row) (positions_of t)) 1) rows h))

all-inside : (f : ℕ → Bool) (s t : List Bool) → IsInside s t → list_all f (positions_of t) ≡ true → list_all f (positions_of s) ≡ true
all-inside f s t i h = list_all-from_AllPass f (positions_of s) (members-inside (λ p. f p ≡ true) 0 s t i (AllPass-from_list_all f (positions_of t) h))

lean-inside : (rows : List (List Bool)) (s t : List Bool) → IsInside s t → is_lean rows (positions_of t) ≡ true → is_lean rows (positions_of s) ≡ true
lean-inside rows s t i h =
    all-inside (λ p. list_all (λ q. not (cell rows p q)) (positions_of s)) s t i
    (list_all-from_AllPass (λ p. list_all (λ q. not (cell rows p q)) (positions_of s)) (positions_of t)
    (All-weaker (λ p. list_all (λ q. not (cell rows p q)) (positions_of t) ≡ true) (λ p. list_all (λ q. not (cell rows p q)) (positions_of s) ≡ true)
    (λ p e. all-inside (λ q. not (cell rows p q)) s t i e) (positions_of t) (AllPass-from_list_all (λ p. list_all (λ q. not (cell rows p q)) (positions_of t)) (positions_of t) h)))

-- a set inside a permitted one is permitted
pub may-inside : (r : Rules) (s t : List Bool) → IsInside s t → may_of r (positions_of t) ≡ true → may_of r (positions_of s) ≡ true
may-inside r s t i h =
    let w = and_parts (keeps_depth r.given.depth (positions_of t)) _ h in
    let v = and_parts (is_exclusive (rows_of r.tables.hits.items) (positions_of t)) (is_lean (rows_of r.tables.spares.items) (positions_of t)) w.1 in
    and_from (keeps_depth r.given.depth (positions_of s)) _ (depth-inside r.given.depth s t i w.0)
    (and_from (is_exclusive (rows_of r.tables.hits.items) (positions_of s)) (is_lean (rows_of r.tables.spares.items) (positions_of s))
    (exclusive-inside (rows_of r.tables.hits.items) s t i v.0) (lean-inside (rows_of r.tables.spares.items) s t i v.1))

pub same_none : (a : Rules) → IsSame a a
same_none a = record { choice = refl; size = refl; may = refl; whole = refl }

pub same_more : (a b c : Rules) → IsSame a b → IsSame b c → IsSame a c
same_more a b c h k = record { choice = k.choice ∙ h.choice; size = k.size ∙ h.size; may = k.may ∙ h.may; whole = k.whole ∙ h.whole }
