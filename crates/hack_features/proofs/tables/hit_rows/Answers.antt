use Rattle.std.proofs.Common.{◌≡◌, ◌<◌, ◌≤◌, ◌+◌, ◌∷◌, [], arith, List, ℕ, take, length, get_or, subst, sym, ap, ◌∙◌, eqb-true}
use Rattle.std.proofs.lemmas.List.{map-append, take_all, take_more, length-map}
use Rattle.hack_base.specs.Names.{Name}
use Rattle.hack_routes.specs.FeatureMap.{feature_map}
use Rattle.hack_features.specs.Feature.{candidates_of, groups_of, group_of}
use Rattle.hack_features.specs.Rules.{unlifted_groups}
use Rattle.hack_samples.specs.Sets.{rows_of}
use Rattle.hack_routes.specs.RoutesView.{routed_names}
use Rattle.hack_features.specs.InternalTables as table
use Rattle.hack_routes.specs.Rows.{bit}
use Rattle.hack_features.specs.InternalTables.{Matched, CountsHits}
use Rattle.hack_base.proofs.Steps.{row_items}
use Rattle.hack_routes.proofs.MarkLemmas.{nil_from}
use Rattle.hack_features.proofs.TableLemmas.{unlifted-more, lifted_group, next_group, hits_of}
use Rattle.hack_features.proofs.tables.hit_rows.Goals as goal
use Rattle.hack_features.proofs.tables.hit_rows.Goals.{then-not-bit+in_ok-hit_row+in_ok-push, else-not-bit}

pub returns-then-is_empty : goal.returns-then-is_empty
returns-then-is_empty c =
    let R = CountsHits (feature_map c.args.given.map.now) (candidates_of c.args.given.features.now) in
    let none : c.args.given.exclusive.now ≡ [] = nil_from c.args.given.exclusive.now (eqb-true (length c.args.given.exclusive.now) 0 (sym c.is_empty.ensures ∙ c.if-is_empty.true)) in
    subst (λ (gs : List (List Name)). Matched R (unlifted_groups gs c.args.given.lifted.now) (rows_of c.new-rows.result.items)) (sym (ap groups_of none))
    (subst (λ (rows : List (List ℕ)). Matched R [] rows) (sym (ap rows_of c.new-rows.ensures.items)) table.nothing)

pub loop-place-init : goal.loop-place-init
loop-place-init c =
    let R = CountsHits (feature_map c.args.given.map.now) (candidates_of c.args.given.features.now) in
    subst (λ (rows : List (List ℕ)). Matched R [] rows) (sym (ap rows_of c.new-rows.ensures.items)) table.nothing

pub loop-place-preserved : goal.loop-place-preserved
loop-place-preserved c =
    let m = feature_map c.args.given.map.now in
    let candidates = candidates_of c.args.given.features.now in
    let R = CountsHits m candidates in
    let groups = groups_of c.args.given.exclusive.now in
    let lifted = c.args.given.lifted.now in
    let place : ℕ = c.loop-place.place in
    let group : List Name = get_or groups place [] in
    let lt : place < length groups = omega (arith, c.loop-place-test.true, length-map c.args.given.exclusive.now group_of) in
    let more = unlifted-more groups place group lifted lt (take_more groups place [] lt) in
    let p = c.in_ok-placed.placed in
    elim c.if-not-bit.branch [
      | then-not-bit+in_ok-hit_row+in_ok-push w ↦
          subst (λ (rows : List (List ℕ)). Matched R (unlifted_groups (take (place + 1) groups) lifted) rows)
          (sym (ap (λ v. rows_of v.items) w.rows-is ∙ ap rows_of w.in_ok-push.ensures.items ∙ map-append row_items c.loop-place.rows.items (w.in_ok-hit_row.field-0 ∷ [])))
          (next_group R (unlifted_groups (take place groups) lifted) (unlifted_groups (take (place + 1) groups) lifted) group (bit lifted place) (rows_of c.loop-place.rows.items) w.in_ok-hit_row.field-0.items more
          (sym c.bit.ensures ∙ w.if-not-bit.true) c.loop-place.invariant
          (hits_of m candidates groups (routed_names p.routes) p.routes.keys.items (rows_of p.routes.marks.items) (rows_of p.candidates.items) (rows_of p.groups.items) c.in_ok-placed.ensures place lt w.row_at.result.now
          (w.row_at.ensures ∙ ap (λ gs. get_or (rows_of gs) place []) w.as_slice.ensures.value) w.in_ok-hit_row.field-0.items
          (λ q l. w.in_ok-hit_row.ensures q (omega (arith, length-map p.candidates.items row_items)))))
      | else-not-bit w ↦
          subst (λ (rows : List (List ℕ)). Matched R (unlifted_groups (take (place + 1) groups) lifted) rows) (sym (ap (λ v. rows_of v.items) w.rows-is))
          (lifted_group R (unlifted_groups (take place groups) lifted) (unlifted_groups (take (place + 1) groups) lifted) group (bit lifted place) (rows_of c.loop-place.rows.items) more
          (sym c.bit.ensures ∙ w.if-not-bit.false) c.loop-place.invariant)
    ]

pub returns : goal.returns
returns c =
    let R = CountsHits (feature_map c.args.given.map.now) (candidates_of c.args.given.features.now) in
    let groups = groups_of c.args.given.exclusive.now in
    let past : length groups ≤ c.loop-place.place = omega (arith, c.loop-place-test.false, length-map c.args.given.exclusive.now group_of) in
    subst (λ (gs : List (List Name)). Matched R (unlifted_groups gs c.args.given.lifted.now) (rows_of c.loop-place.rows.items)) (take_all c.loop-place.place groups past) c.loop-place.invariant
