use Rattle.std.proofs.Common.{◌+◌, ◌++◌, ◌∷◌, [], ◌∙◌, ◌≤◌, take, length, sym, ap, subst, arith}
use Rattle.std.proofs.lemmas.List.{map-append, take_all, length-map}
use Rattle.hack_samples.specs.Sets.{rows_of}
use Rattle.hack_features.specs.Feature.{group_of, groups_of}
use Rattle.hack_routes.specs.Places.{AreAllAt, AreAt}
use Rattle.hack_routes.specs.InternalNamesView.{table}
use Rattle.hack_base.proofs.Steps.{seen-next, row_items}
use Rattle.hack_routes.proofs.PlaceLemmas.{all_at-nothing, all_at-front, all_at-push, more-none, more-then}
use Rattle.hack_features.proofs.placed.group_places.Goals as goal

pub loop-group-init : goal.loop-group-init
loop-group-init c = record {
  step = c.requires;
  rows = subst (λ rs. AreAllAt (table c.args.names.now) (rows_of rs) []) (sym c.new-rows.ensures.items) (all_at-nothing (table c.args.names.now));
  kept = more-none (table c.args.names.now);
}

pub loop-group-preserved : goal.loop-group-preserved
loop-group-preserved c =
    let k = c.loop-group.group-index in
    let all = groups_of c.args.groups.now in
    let group = group_of c.group-item.result in
    let more = seen-next group_of c.args.groups.now k c.group-item.result c.loop-group-test.true c.group-item.is in
    let old = table c.loop-group.names in
    let new = table c.places_of.new.self in
    let row = c.in_ok-places_of.field-0 in record {
      step = c.in_ok-places_of.ensures.in_step;
      rows = subst (λ rs. AreAllAt new rs (take (k + 1) all)) (sym (ap rows_of c.in_ok-push.ensures.items ∙ map-append row_items c.loop-group.rows.items (row ∷ [])))
          (subst (AreAllAt new (rows_of c.loop-group.rows.items ++ row.items ∷ [])) (sym more)
          (all_at-push new (rows_of c.loop-group.rows.items) (take k all) row.items group
          (all_at-front old new c.in_ok-places_of.ensures.kept (rows_of c.loop-group.rows.items) (take k all) c.loop-group.invariant.rows)
          (subst (AreAt new row.items) c.as_group.ensures c.in_ok-places_of.ensures.row)));
      kept = more-then (table c.args.names.now) old new c.loop-group.invariant.kept c.in_ok-places_of.ensures.kept;
    }

pub returns-clause-rows : goal.returns-clause-rows
returns-clause-rows c =
    let all = groups_of c.args.groups.now in
    let past : length all ≤ c.loop-group.group-index = omega (arith, c.loop-group-test.false, length-map c.args.groups.now group_of) in
    subst (AreAllAt (table c.loop-group.names) (rows_of c.loop-group.rows.items)) (take_all c.loop-group.group-index all past) c.loop-group.invariant.rows
