use Rattle.std.proofs.Common.{◌+◌, ◌++◌, ◌∷◌, [], ◌∙◌, take, sym, ap, subst}
use Rattle.hack_base.specs.Names.{names_of}
use Rattle.hack_routes.specs.Places.{AreAt}
use Rattle.hack_routes.specs.InternalNamesView.{table}
use Rattle.hack_base.proofs.NameLemmas.{names-more}
use Rattle.hack_routes.proofs.PlaceLemmas.{at-front, at-push, at-nothing, more-none, more-then}
use Rattle.hack_routes.proofs.names.Names.places_of.Goals as goal

pub loop-text-init : goal.loop-text-init
loop-text-init c = record {
  step = c.requires;
  row = subst (λ r. AreAt (table c.args.self.now) r []) (sym c.new-row.ensures.items) (at-nothing (table c.args.self.now));
  kept = more-none (table c.args.self.now);
}

pub loop-text-preserved : goal.loop-text-preserved
loop-text-preserved c =
    let done = take c.loop-text.text-index (names_of c.args.texts.now) in
    let x = c.as_str.result.now in
    let more = names-more c.args.texts.now c.loop-text.text-index c.text-item.result c.loop-text-test.true c.text-item.is ∙ ap (λ n. done ++ n ∷ []) (sym c.as_str.ensures.value) in
    let old = table c.loop-text.self in
    let new = table c.place_of.new.self in
    let kept = c.in_ok-place_of.ensures.adds.kept in record {
      step = c.in_ok-place_of.ensures.in_step;
      row = subst (λ r. AreAt new r (take (c.loop-text.text-index + 1) (names_of c.args.texts.now))) (sym c.in_ok-push.ensures.items)
          (subst (AreAt new (c.loop-text.row.items ++ c.in_ok-place_of.field-0 ∷ [])) (sym more)
          (at-push new c.loop-text.row.items done c.in_ok-place_of.field-0 x (at-front old kept.0 new c.loop-text.row.items done kept.1 c.loop-text.invariant.row) c.in_ok-place_of.ensures.place.0 c.in_ok-place_of.ensures.place.1));
      kept = more-then (table c.args.self.now) old new c.loop-text.invariant.kept kept;
    }
