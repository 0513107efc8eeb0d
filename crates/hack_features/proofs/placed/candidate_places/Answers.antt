use Rattle.std.proofs.Common.{◌+◌, ◌++◌, ◌∷◌, [], ◌∙◌, ◌≤◌, take, length, sym, ap, subst, arith}
use Rattle.std.specs.Borrow.{Bor}
use Rattle.std.proofs.lemmas.List.{map-append, take_all, length-map}
use Rattle.hack_features.specs.declared.feature.Feature.{Feature}
use Rattle.hack_samples.specs.Sets.{rows_of}
use Rattle.hack_features.specs.Feature.{group_of, candidates_of}
use Rattle.hack_routes.specs.Places.{AreAllAt, AreAt}
use Rattle.hack_routes.specs.InternalNamesView.{table}
use Rattle.hack_base.proofs.Steps.{seen-next, row_items}
use Rattle.hack_routes.proofs.PlaceLemmas.{all_at-nothing, all_at-front, all_at-push, more-none, more-then}
use Rattle.hack_features.proofs.placed.candidate_places.Goals as goal

pub loop-candidate-init : goal.loop-candidate-init
loop-candidate-init c = record {
  step = c.requires;
  rows = subst (λ rs. AreAllAt (table c.args.names.now) (rows_of rs) []) (sym c.new-rows.ensures.items) (all_at-nothing (table c.args.names.now));
  kept = more-none (table c.args.names.now);
}

pub loop-candidate-preserved : goal.loop-candidate-preserved
loop-candidate-preserved c =
    let k = c.loop-candidate.candidate-index in
    let all = candidates_of c.args.candidates.now in
    let group = group_of c.candidate-item.result.now in
    let more = seen-next (λ (feature : Bor Feature). group_of feature.now) c.args.candidates.now k c.candidate-item.result c.loop-candidate-test.true c.candidate-item.is in
    let old = table c.loop-candidate.names in
    let new = table c.places_of.new.self in
    let row = c.in_ok-places_of.field-0 in record {
      step = c.in_ok-places_of.ensures.in_step;
      rows = subst (λ rs. AreAllAt new rs (take (k + 1) all)) (sym (ap rows_of c.in_ok-push.ensures.items ∙ map-append row_items c.loop-candidate.rows.items (row ∷ [])))
          (subst (AreAllAt new (rows_of c.loop-candidate.rows.items ++ row.items ∷ [])) (sym more)
          (all_at-push new (rows_of c.loop-candidate.rows.items) (take k all) row.items group
          (all_at-front old new c.in_ok-places_of.ensures.kept (rows_of c.loop-candidate.rows.items) (take k all) c.loop-candidate.invariant.rows)
          (subst (AreAt new row.items) c.as_group.ensures c.in_ok-places_of.ensures.row)));
      kept = more-then (table c.args.names.now) old new c.loop-candidate.invariant.kept c.in_ok-places_of.ensures.kept;
    }

pub returns-clause-rows : goal.returns-clause-rows
returns-clause-rows c =
    let all = candidates_of c.args.candidates.now in
    let past : length all ≤ c.loop-candidate.candidate-index = omega (arith, c.loop-candidate-test.false, length-map c.args.candidates.now (λ (feature : Bor Feature). group_of feature.now)) in
    subst (AreAllAt (table c.loop-candidate.names) (rows_of c.loop-candidate.rows.items)) (take_all c.loop-candidate.candidate-index all past) c.loop-candidate.invariant.rows
