use Rattle.std.proofs.Common.{◌≡◌, ◌<◌, ◌≤◌, ◌+◌, ◌∷◌, [], sym, ap, ◌∙◌, subst, arith, Bool, ℕ, List, false, get_or, take, length, IsTrue}
use Rattle.std.specs.List.{list_any}
use Rattle.std.proofs.lemmas.List.{take_all, map-append, length-map}
use Rattle.hack_samples.specs.Sets.{rows_of}
use Rattle.hack_routes.specs.RoutesView.{routed_names}
use Rattle.hack_features.specs.InternalTables as table
use Rattle.hack_features.specs.InternalTables.{RowsServe, serves_test}
use Rattle.hack_base.proofs.NameLemmas.{length-shown}
use Rattle.hack_base.proofs.Steps.{row_items}
use Rattle.hack_routes.proofs.MarkLemmas.{row_at}
use Rattle.hack_features.proofs.TableLemmas.{rows-kept, rows-dropped}
use Rattle.hack_features.proofs.tables.serve_rows.Goals as goal
use Rattle.hack_features.proofs.tables.serve_rows.Goals.{then-is_served+in_ok-serve_row+in_ok-push, else-is_served}

pub loop-group-init : goal.loop-group-init
loop-group-init c = λ m candidates groups p. subst (λ rows. RowsServe m candidates [] (rows_of rows)) (sym c.new-rows.ensures.items) table.no_rows

pub loop-group-preserved : goal.loop-group-preserved
loop-group-preserved c = λ m candidates groups p.
    let placed = c.args.placed.now in
    let k : ℕ = c.loop-group.group-index in
    let each : List (List ℕ) = rows_of placed.groups.items in
    let keys : List Bool = placed.routes.keys.items in
    let marks : List (List Bool) = rows_of placed.routes.marks.items in
    let here : get_or each k [] ≡ c.group-item.result.items =
    ap (λ l. get_or (rows_of l) k []) (sym c.as_slice-group-items.ensures.value) ∙ row_at c.as_slice-group-items.result.now k c.group-item.result c.loop-group-test.true c.group-item.is in
    let lt : k < length groups = omega (arith, p.groups_at.count, length-map placed.groups.items row_items, c.loop-group-test.true, ap length c.as_slice-group-items.ensures.value) in
    let before = c.loop-group.invariant m candidates groups p in
    let names = routed_names placed.routes in
    let count : length names ≡ length placed.routes.names.items = length-shown placed.routes.names.items in
    elim c.if-is_served.branch [
      | then-is_served+in_ok-serve_row+in_ok-push w ↦
          subst (λ rows. RowsServe m candidates (take (k + 1) groups) rows)
          (sym (ap (λ v. rows_of v.items) w.rows-is ∙ ap rows_of w.in_ok-push.ensures.items ∙ map-append row_items c.loop-group.rows.items (w.in_ok-serve_row.field-0 ∷ [])))
          (rows-kept m candidates groups names keys marks (rows_of placed.candidates.items) each p k lt (rows_of c.loop-group.rows.items) w.in_ok-serve_row.field-0.items before c.group-item.result.items here
          (let some = c.is_served.ensures.some w.if-is_served.true in (some.0, omega (arith, some.1, count), subst (λ g. IsTrue (serves_test keys marks g some.0)) c.as_slice.ensures.value some.2))
          (λ q l. w.in_ok-serve_row.ensures q (omega (arith, l, length-map placed.candidates.items row_items)) ∙ ap (λ g. list_any (serves_test keys marks g) (get_or (rows_of placed.candidates.items) q [])) w.as_slice-then-is_served.ensures.value))
      | else-is_served w ↦
          subst (λ rows. RowsServe m candidates (take (k + 1) groups) rows) (sym (ap (λ v. rows_of v.items) w.rows-is))
          (rows-dropped m candidates groups names keys marks (rows_of placed.candidates.items) each p k lt (rows_of c.loop-group.rows.items) before c.group-item.result.items here
          (λ x l. subst (λ g. serves_test keys marks g x ≡ false) c.as_slice.ensures.value (c.is_served.ensures.none w.if-is_served.false x (omega (arith, l, count)))))
    ]

pub returns : goal.returns
returns c = λ m candidates groups p.
    let placed = c.args.placed.now in
    let past : length groups ≤ c.loop-group.group-index = omega (arith, p.groups_at.count, length-map placed.groups.items row_items, c.loop-group-test.false, ap length c.as_slice-group-items.ensures.value) in
    subst (λ gs. RowsServe m candidates gs (rows_of c.loop-group.rows.items)) (take_all c.loop-group.group-index groups past) (c.loop-group.invariant m candidates groups p)
