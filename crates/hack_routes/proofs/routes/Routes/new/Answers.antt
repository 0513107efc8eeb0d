use Rattle.std.proofs.Common.{◌≡◌, ◌<◌, ◌∙◌, ◌↔◌, ℕ, List, Bool, IsTrue, All, Contains, length, sym, subst, arith}
use Rattle.std.proofs.lemmas.List.{length-map}
use Rattle.std.proofs.lemmas.List.Elements.{Contains-append_left}
use Rattle.hack_routes.specs.FeatureMap.{feature_map, Chain}
use Rattle.hack_routes.specs.InternalPlaces.{Leads}
use Rattle.hack_routes.specs.Rows.{leads}
use Rattle.hack_samples.specs.Sets.{rows_of}
use Rattle.hack_routes.specs.InternalNamesView.{table}
use Rattle.hack_routes.specs.InternalLinksView.{table_of}
use Rattle.hack_base.proofs.Steps.{row_items}
use Rattle.hack_routes.proofs.LinkLemmas.{rows_inside, routes_from}
use Rattle.hack_routes.proofs.routes.Routes.new.Goals as goal

pub all_marks-requires : goal.all_marks-requires
all_marks-requires c =
    let links = c.in_ok-links.links in
    let rows : List (List ℕ) = rows_of links.rows.items in
    let h = c.in_ok-links.ensures.links in
    let count : length rows ≡ length links.rows.items = length-map links.rows.items row_items in
    record {
      within = subst (λ rs. All (All (λ p. p < length rs)) (rows_of rs)) (sym c.as_slice.ensures.value)
          (subst (λ n. All (All (λ p. p < n)) rows) count (rows_inside c.args.edges (feature_map c.args.map.now) (table_of links) links.keys.items rows h.linking.rows (count ∙ h.all)));
    }

pub returns-clause-routes : goal.returns-clause-routes
returns-clause-routes c =
    let links = c.in_ok-links.links in
    let m = feature_map c.args.map.now in
    let rows : List (List ℕ) = rows_of links.rows.items in
    let h = c.in_ok-links.ensures.links in
    let kept = c.in_ok-links.ensures.kept in
    let count : length rows ≡ length links.rows.items = length-map links.rows.items row_items in
    let marks : List (List Bool) = rows_of c.in_ok-marks.marks.items in
    let told : (i j : ℕ) → i < length links.rows.items → IsTrue (leads marks i j) ↔ Chain (Leads rows) i j =
    subst (λ rs. (i j : ℕ) → i < length rs → IsTrue (leads marks i j) ↔ Chain (Leads (rows_of rs)) i j) c.as_slice.ensures.value c.in_ok-marks.ensures in
    routes_from c.args.edges m (table_of links) links.keys.items rows h.linking.rows (count ∙ h.all) links.names.places h.linking.step
    (λ x k. subst (λ ns. Contains ns x) (sym kept.1) (Contains-append_left (table c.args.names) kept.0 x (c.requires.known x k)))
    marks (λ i j lt. told i j (omega (arith, count)))
