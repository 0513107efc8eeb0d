use Rattle.std.proofs.Common.{◌++◌, ◌<◌, ◌≤◌, [], length, sym, ap, subst, arith}
use Rattle.hack_routes.specs.FeatureMap.{feature_map}
use Rattle.hack_samples.specs.Sets.{rows_of}
use Rattle.hack_routes.specs.InternalPlaces.{AreRows}
use Rattle.hack_routes.specs.InternalNamesView.{table}
use Rattle.hack_routes.specs.InternalLinksView.{table_of}
use Rattle.hack_base.proofs.NameLemmas.{length-shown}
use Rattle.hack_routes.proofs.ReachLemmas.{all_targets}
use Rattle.hack_routes.proofs.LinkLemmas.{rows-none, grown-none, grown-then, grown-bound}
use Rattle.hack_routes.proofs.links.Links.new.Goals as goal

pub rows-init : goal.rows-init
rows-init c =
    let m = feature_map c.args.map.now in
    let names = table c.args.names in record {
      linking = record {
        step = c.requires;
        rows = subst (λ ks. AreRows c.args.edges m names ks (rows_of c.new-2.result.items)) (sym c.new.ensures.items)
            (subst (λ rs. AreRows c.args.edges m names [] (rows_of rs)) (sym c.new-2.ensures.items) (rows-none c.args.edges m names));
        room = omega (arith, ap length c.new-2.ensures.items);
      };
      grown = grown-none c.args.edges m names;
    }

pub rows-preserved : goal.rows-preserved
rows-preserved c = record {
  linking = c.in_ok-add_row.ensures.links;
  grown = grown-then c.args.edges (feature_map c.args.map.now) (table c.args.names) (table_of c.rows.links) (table_of c.add_row.new.self) c.rows.invariant.grown c.in_ok-add_row.ensures.grown;
}

pub rows-smaller : goal.rows-smaller
rows-smaller c =
    let m = feature_map c.args.map.now in
    let old = c.rows.links in
    let bound : length (table_of old) ≤ length (table c.args.names ++ all_targets m) = grown-bound c.args.edges m (table c.args.names) (table_of old) old.names.places c.rows.invariant.grown c.rows.invariant.linking.step in
    let left : length old.rows.items < length (table_of old) = omega (arith, length-shown old.names.texts.items, old.rows.ok.0, old.names.texts.ok.0) in
    omega (arith, c.in_ok-add_row.ensures.more)

pub returns-clause-links : goal.returns-clause-links
returns-clause-links c =
    let old = c.rows.links in record {
      linking = c.rows.invariant.linking;
      all = omega (arith, length-shown old.names.texts.items, old.rows.ok.0, old.names.texts.ok.0, c.rows.invariant.linking.room);
    }
