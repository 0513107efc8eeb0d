-- Trees that are compared.
use Rattle.std.proofs.Common.{◌≡◌, ℕ, suc, List, [], ◌∷◌, length, Bool, true, false, ◌&&◌, cond, refl, ap, ◌∙◌, arith, String, Global, BTreeMap, Ordering, Less, Equal, Greater, string_bytes, nat_cmp, is_eq, IsTrue, Result, Ok, Err}
use Rattle.std.specs.Prelude.{◌↔◌, IfOk, MatchResult}
use Rattle.std.specs.List.{AllZip}
use Rattle.std.specs.Cmp.Lexicographic.{slice_cmp}
use Rattle.std.specs.Map.{remove_entry}
use Rattle.std.specs.String.{string_cmp}
use Rattle.std.specs.Ordering.{match_ordering}
use Rattle.std.specs.BTreeMap.{is_at, insert_entry}
use Rattle.toml.specs.Data.{table, no_members, member}
use Rattle.toml.proofs.Views.{Entry}
use Rattle.hack_edits.specs.Tables.{remove_member, with_member}
use Rattle.hack_edits.specs.InternalTreeEquality.{same, same_items}
use Rattle.toml.specs.View.{view, items_view, members_view, table_view}
use Rattle.toml.specs.declared.value.Value.{Value}

and_false : (a b : Bool) → b ≡ false → (a && b) ≡ false
and_false true b h = h
and_false false b h = refl

-- arrays of two lengths are not the same
pub same_items-lengths : (xs ys : List Value) → (length xs ≡ length ys → ⊥) → same_items (items_view xs) (items_view ys) ≡ false
same_items-lengths [] [] h = absurd (h refl)
same_items-lengths [] (y ∷ ys) h = refl
same_items-lengths (x ∷ xs) [] h = refl
same_items-lengths (x ∷ xs) (y ∷ ys) h = and_false (same (view x) (view y)) _ (same_items-lengths xs ys (λ e. h (ap suc e)))

-- ---- the map of a table and the members

members_view-match : (o : Ordering) (a b c : List Entry) → members_view (match_ordering o a b c) ≡ match_ordering o (members_view a) (members_view b) (members_view c)
members_view-match Less a b c = refl
members_view-match Equal a b c = refl
members_view-match Greater a b c = refl

pub members_view-insert_entry : (es : List Entry) (k : String Global) (v : Value) → members_view (insert_entry string_cmp es k v) ≡ with_member (string_bytes k) (view v) (members_view es)
members_view-insert_entry [] k v = refl
members_view-insert_entry (e ∷ es) k v = members_view-match (string_cmp k e.0) _ _ _ ∙ rw (members_view-insert_entry es k v)

removed_or : (b : Bool) (e : Entry) (es rest : List Entry) → members_view (cond b es (e ∷ rest)) ≡ cond b (members_view es) (member (string_bytes e.0) (view e.1) (members_view rest))
removed_or true e es rest = refl
removed_or false e es rest = refl

pub members_view-remove_entry : (k : List ℕ) (es : List Entry) → members_view (remove_entry (is_at (λ x. slice_cmp nat_cmp k (string_bytes x))) es) ≡ remove_member k (members_view es)
members_view-remove_entry k [] = refl
members_view-remove_entry k (e ∷ es) = removed_or (is_eq (slice_cmp nat_cmp k (string_bytes e.0))) e es _ ∙ rw (members_view-remove_entry k es)

at : (es : List Entry) (b : Bool) → (IsTrue b ↔ (length es ≡ 0)) → b ≡ same (table (members_view es)) (table no_members)
at [] true h = refl
at [] false h = h.1 refl
at (e ∷ es) true h = absurd (omega (arith, h.0 refl))
at (e ∷ es) false h = refl

-- a table is empty exactly where its map is
pub is_empty-map : (m : BTreeMap (String Global) Value) (b : Bool) → (IsTrue b ↔ (length m.entries ≡ 0)) → b ≡ same (table (members_view m.entries)) (table no_members)
is_empty-map m b h = at m.entries b h

-- entries whose parts are copies of others are seen as the same members
copied-entries : (es fs : List Entry) → AllZip (λ (p q : Entry). (string_bytes q.0 ≡ string_bytes p.0) × (view q.1 ≡ view p.1)) es fs → members_view fs ≡ members_view es
copied-entries [] [] h = refl
copied-entries [] (f ∷ fs) h = absurd h
copied-entries (e ∷ es) [] h = absurd h
copied-entries (e ∷ es) (f ∷ fs) h = rw (h.0.0, h.0.1, copied-entries es fs h.1)

-- a copy of a table is seen as the same
pub copied-table : {E : Type 0} (r : Result (BTreeMap (String Global) Value) E) (m : BTreeMap (String Global) Value) (P : E → Type 0)
    → MatchResult r (λ n. AllZip (λ (p q : Entry). (string_bytes q.0 ≡ string_bytes p.0) × (view q.1 ≡ view p.1)) m.entries n.entries) P → IfOk r (λ t. table_view t ≡ table_view m)
copied-table (Ok n) m P h = copied-entries m.entries n.entries h
copied-table (Err e) m P h = tt
