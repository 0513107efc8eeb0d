use Rattle.std.proofs.Common.{◌≡◌, ◌++◌, ◌∷◌, [], ◌<◌, ◌∙◌, length, length-append, sym, ap, subst, arith, ℕ, List}
use Rattle.std.proofs.lemmas.List.{get_or_default, map-append, length-map}
use Rattle.hack_routes.specs.FeatureMap.{feature_map}
use Rattle.hack_routes.specs.Places.{name_at}
use Rattle.hack_routes.specs.InternalPlaces.{AreRows}
use Rattle.hack_samples.specs.Sets.{rows_of}
use Rattle.hack_routes.specs.InternalNamesView.{table}
use Rattle.hack_routes.specs.InternalLinksView.{table_of}
use Rattle.hack_base.proofs.NameLemmas.{shown-at, length-shown}
use Rattle.hack_base.proofs.Steps.{row_items}
use Rattle.hack_routes.proofs.LinkLemmas.{rows-next, key_at, grown-targets}
use Rattle.hack_routes.proofs.links.Links.add_row.Goals as goal

pub returns-clause-links : goal.returns-clause-links
returns-clause-links c =
    let old = c.args.self.now in
    let m = feature_map c.args.map.now in
    let rows : List (List ℕ) = rows_of old.rows.items in
    let names = table old.names in
    let new = table c.row_of.new.self in
    let more = c.in_ok-row.ensures.adds.kept in
    let x = c.index-name.result.now.now in
    let key = c.contains_key.result in
    let count : length rows ≡ length old.rows.items = length-map old.rows.items row_items in
    let k : c.len.result ≡ length rows = omega (arith, c.len.ensures, old.rows.ok.0, count) in
    let left : length rows < length names = omega (arith, c.requires.left, count) in
    let inside : c.len.result < length old.names.texts.items = omega (arith, length-shown old.names.texts.items) in
    let at : x ≡ name_at names (length rows) =
    shown-at old.names.texts.items c.len.result c.index-name.result.now inside c.index-name.ensures
    ∙ get_or_default names c.len.result x [] (omega (arith, length-shown old.names.texts.items))
    ∙ ap (name_at names) k in
    record {
      step = c.in_ok-row.ensures.in_step;
      rows = subst (λ ks. AreRows c.args.edges m new ks (rows_of c.push.new.self.items)) (sym c.in_ok-push-2.ensures.items)
          (subst (λ rs. AreRows c.args.edges m new (old.keys.items ++ key ∷ []) rs) (sym (ap rows_of c.in_ok-push.ensures.items ∙ map-append row_items old.rows.items (c.in_ok-row.row ∷ [])))
          (rows-next c.args.edges m names new more.0 more.1 old.keys.items rows x c.in_ok-row.row.items key c.requires.links.rows left at c.in_ok-row.ensures.row (c.contains_key.ensures ∙ key_at c.args.map.now x)));
      room = omega (arith, c.requires.left, ap length c.in_ok-push.ensures.items, length-append old.rows.items (c.in_ok-row.row ∷ []), ap length more.1, length-append names more.0);
    }

pub returns-clause-grown : goal.returns-clause-grown
returns-clause-grown c =
    grown-targets c.args.edges (feature_map c.args.map.now) c.index-name.result.now.now (table_of c.args.self.now) (table c.row_of.new.self) c.in_ok-row.ensures.adds
