-- What the answers of the rules say, and the sets that an enumeration by them lists.
use Rattle.std.proofs.Common.{[], ◌≢◌, ◌≡◌, ℕ, List, length, refl, sym, ◌∙◌, subst, Bool, true, false, inl, inr, ◌↔◌, IsTrue, Contains, map, Option, Some, None}
use Rattle.std.specs.Prelude.{◌==◌, not}
use Rattle.std.proofs.lemmas.Bool.{and_parts, and_from, leb-true, le-leb}
use Rattle.hack_features.specs.declared.rules.Rules.{Rules}
use Rattle.hack_sets.specs.Sets.{IsSelection, IsWithin, IsListing, items_at}
use Rattle.hack_samples.specs.Sets.{rows_of}
use Rattle.hack_features.specs.Rules.{Choice, IsRequired, IsPermitted, IsListed, IsWanted, Covers, AreSingle, EnableTheSame, AreCovers}
use Rattle.hack_features.specs.Tables.{keeps_depth, is_lean, is_exclusive, is_required, AreTables}
use Rattle.hack_features.specs.InternalTables.{wanted_test}
use Rattle.hack_features.specs.View.{choice_of, size_of, may_of, whole_of}
use Rattle.hack_features.specs.InternalView.{AreTablesOf}
use Rattle.hack_sets.specs.Questions.{IsWholeSet, IsCheap}
use Rattle.hack_routes.specs.RoutesView.{routed_names}
use Rattle.hack_features.specs.PlacedView.{IsPlaced}
use Rattle.hack_routes.specs.declared.reach.Edges.TheVariants.{Enabling}
use Rattle.hack_features.proofs.Decided.{are_tables, are_placed}
use Rattle.hack_base.proofs.Members.{Contains-map}
use Rattle.hack_features.proofs.CandidateLemmas.{length-candidates_of}
use Rattle.hack_features.proofs.TableLemmas.{lean_iff, tell}
use Rattle.hack_features.proofs.Coverage.{covered}
use Rattle.hack_features.proofs.CoverLemmas.{ordered, not_empty, is_not_empty}
use Rattle.hack_features.proofs.Single.{single_inside}

-- what the tables of rules say, and what is placed for them
pub tables_of : (r : Rules) → AreTablesOf (choice_of r) r
tables_of r = are_tables (choice_of r) (rows_of r.tables.spares.items) (rows_of r.tables.hits.items) (rows_of r.tables.serves.items) r.tables_told

pub placed_of : (r : Rules) → IsPlaced Enabling (choice_of r).map (choice_of r).candidates (choice_of r).at_least_one_of r.enabled
placed_of r =
    are_placed Enabling (choice_of r).map (choice_of r).candidates (choice_of r).at_least_one_of (routed_names r.enabled.routes) r.enabled.routes.keys.items (rows_of r.enabled.routes.marks.items)
    (rows_of r.enabled.candidates.items) (rows_of r.enabled.groups.items) r.placed_told

pub depth_iff : (depth : Option ℕ) (s : List ℕ) → (keeps_depth depth s ≡ true) ↔ IsWithin depth s
depth_iff None s = (λ e. tt, λ h. refl)
depth_iff (Some most) s = (leb-true (length s) most, le-leb (length s) most)

-- a set is listed if it isn't empty, is permitted and serves the groups
pub listed_by : (c : Choice) (s : List ℕ) → s ≢ [] → IsPermitted c s → IsRequired c s → IsListed c s
listed_by c s nonempty p required = record {
  wanted = record { nonempty = nonempty; within = p.within; exclusive = p.exclusive; required = required };
  lean = p.lean;
}

pub listed_permitted : (c : Choice) (s : List ℕ) → IsListed c s → IsPermitted c s
listed_permitted c s l = record { within = l.wanted.within; lean = l.lean; exclusive = l.wanted.exclusive }

module _ (r : Rules) (h : AreTablesOf (choice_of r) r) where
  all_of : length (choice_of r).candidates ≡ size_of r
  all_of = length-candidates_of r.given.features.now

  pub up : (s : List ℕ) → IsSelection (size_of r) s → IsSelection (length (choice_of r).candidates) s
  up s sel = subst (λ n. IsSelection n s) (sym all_of) sel

  pub down : (s : List ℕ) → IsSelection (length (choice_of r).candidates) s → IsSelection (size_of r) s
  down s sel = subst (λ n. IsSelection n s) all_of sel

  pub permitted_iff : (s : List ℕ) → IsSelection (size_of r) s → IsTrue (may_of r s) ↔ IsPermitted (choice_of r) s
  permitted_iff s sel =
      let lean = lean_iff (choice_of r) (rows_of r.tables.spares.items) h.spared s (up s sel) in
      let exclusive = h.exclusive s (up s sel) in
      let depth = depth_iff r.given.depth s in (
        λ t. let w = and_parts (keeps_depth r.given.depth s) _ t in
            let v = and_parts (is_exclusive (rows_of r.tables.hits.items) s) (is_lean (rows_of r.tables.spares.items) s) w.1 in
            record { within = depth.0 w.0; lean = lean.0 v.1; exclusive = exclusive.0 v.0 },
        λ p. and_from (keeps_depth r.given.depth s) _ (depth.1 p.within)
            (and_from (is_exclusive (rows_of r.tables.hits.items) s) (is_lean (rows_of r.tables.spares.items) s) (exclusive.1 p.exclusive) (lean.1 p.lean)),
      )

  pub required_iff_whole : (s : List ℕ) → IsSelection (size_of r) s → IsTrue (whole_of r s) ↔ IsRequired (choice_of r) s
  required_iff_whole s sel = h.required s (up s sel)

  listed_iff : (s : List ℕ) → IsSelection (size_of r) s → IsWholeSet (may_of r) (whole_of r) s ↔ IsListed (choice_of r) s
  listed_iff s sel = (
    λ w. listed_by (choice_of r) s w.nonempty ((permitted_iff s sel).0 w.allowed) ((required_iff_whole s sel).0 w.completed),
    λ l. record { nonempty = l.wanted.nonempty; allowed = (permitted_iff s sel).1 (listed_permitted (choice_of r) s l); completed = (required_iff_whole s sel).1 l.wanted.required },
  )

  -- what the enumeration lists are the listed sets
  pub listing_of : (sets : List (List ℕ)) → IsListing (size_of r) (IsWholeSet (may_of r) (whole_of r)) sets → IsListing (size_of r) (IsListed (choice_of r)) sets
  listing_of sets l = record {
    ordered = l.ordered;
    exact = λ s. (
      λ c. let w = (l.exact s).0 c in (w.0, (listed_iff s w.0).0 w.1),
      λ w. (l.exact s).1 (w.0, (listed_iff s w.0).1 w.1),
    );
  }

  -- what is few for the permitted sets as the tables answer it, is few for the permitted sets
  pub cheap_of : (asked : ℕ) → IsCheap (λ s. IsTrue (may_of r s)) (size_of r) asked → IsCheap (IsPermitted (choice_of r)) (size_of r) asked
  cheap_of asked h = record {
    sets = h.sets;
    all = record {
      ordered = h.all.ordered;
      exact = λ s. (
        λ c. let w = (h.all.exact s).0 c in (w.0, (permitted_iff s w.0).0 w.1),
        λ w. (h.all.exact s).1 (w.0, (permitted_iff s w.0).1 w.1),
      );
    };
    few = h.few;
  }

  -- each wanted set is covered by one of them
  pub covering_of : {X : Type 0} (items : List X) (lists : List (List X)) (sets : List (List ℕ)) → IsListing (size_of r) (IsListed (choice_of r)) sets → lists ≡ map (items_at items) sets
      → (s : List ℕ) → IsSelection (size_of r) s → IsWanted (choice_of r) s → (t : List ℕ) × Covers (choice_of r) s t × Contains lists (items_at items t)
  covering_of items lists sets l e s sel w =
      let t = covered (choice_of r) (λ s sel. tell (choice_of r) (rows_of r.tables.spares.items) h.spared s sel) s (up s sel) w in (
        t.0,
        t.1,
        subst (λ ls. Contains ls (items_at items t.0)) (sym e)
            (Contains-map (items_at items) sets t.0 ((l.exact t.0).1 (down t.0 t.1.selection, t.1.listed))),
      )

  -- each wanted set is covered by one of the listed sets
  pub covers_of : (sets : List (List ℕ)) → IsListing (size_of r) (IsListed (choice_of r)) sets → AreCovers (choice_of r) (size_of r) sets
  covers_of sets l s sel w =
      let t = covered (choice_of r) (λ s sel. tell (choice_of r) (rows_of r.tables.spares.items) h.spared s sel) s (up s sel) w in
      (t.0, t.1, (l.exact t.0).1 (down t.0 t.1.selection, t.1.listed))

pub wanted_iff : (c : Choice) (spares : List (List Bool)) (hits : List (List ℕ)) (serves : List (List Bool)) → AreTables c spares hits serves
    → (s : List ℕ) → IsSelection (length c.candidates) s → (wanted_test c.depth hits serves s ≡ true) ↔ IsWanted c s
wanted_iff c spares hits serves h s sel = (
  λ t.
      let w = and_parts (not (length s == 0)) _ t in
      let v = and_parts (keeps_depth c.depth s) _ w.1 in
      let u = and_parts (is_exclusive hits s) (is_required serves s) v.1 in
      record { nonempty = not_empty s w.0; within = (depth_iff c.depth s).0 v.0; exclusive = (h.exclusive s sel).0 u.0; required = (h.required s sel).0 u.1 },
  λ w. and_from (not (length s == 0)) _ (is_not_empty s w.nonempty)
      (and_from (keeps_depth c.depth s) _ ((depth_iff c.depth s).1 w.within)
      (and_from (is_exclusive hits s) (is_required serves s) ((h.exclusive s sel).1 w.exclusive) ((h.required s sel).1 w.required))),
)

-- where a test is false, what it tests for doesn't hold
pub false_from : {P : Type 0} (b : Bool) → (b ≡ true) ↔ P → b ≡ false → ¬ P
false_from b h e p = let t : true ≡ false = sym (h.1 p) ∙ e in cc

-- each candidate has one name, and no two of these enable each other
module _ (c : Choice) (h : AreSingle c) where
  -- different listed sets enable different names
  pub one_each : (s t : List ℕ) → IsSelection (length c.candidates) s → IsSelection (length c.candidates) t → IsListed c s → IsListed c t → EnableTheSame c s t → s ≡ t
  one_each s t hs ht ls lt same =
      elim (ordered (length c.candidates) s t hs ht) [
        | inl b ↦ absurd (b.absent (single_inside c h t s ht hs lt.lean (λ y. ((same y).1, (same y).0)) b.greatest b.present))
        | inr w ↦ elim w [
          | inl e ↦ e
          | inr b ↦ absurd (b.absent (single_inside c h s t hs ht ls.lean same b.greatest b.present))
        ]
      ]
