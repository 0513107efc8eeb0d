use Rattle.std.proofs.Common.{take, sym, ◌∙◌, subst, Contains, ℕ, get_or}
use Rattle.std.proofs.lemmas.List.{take_more}
use Rattle.hack_routes.specs.InternalPlaces.{AddsPlaces}
use Rattle.hack_routes.proofs.MarkLemmas.{places-next}
use Rattle.hack_routes.proofs.marks.Marks.mark_all.Goals as goal

pub loop-place-preserved : goal.loop-place-preserved
loop-place-preserved c =
    let k : ℕ = c.loop-place.place-index in
    let place : ℕ = get_or c.args.places.now k 0 in
    record {
      marked = c.in_ok-mark.ensures.marked;
      size = c.mark.ensures.size ∙ c.loop-place.invariant.size;
      adds = subst (λ done. AddsPlaces (Contains done) c.args.self.now.order.items c.mark.new.self.order.items) (sym (take_more c.args.places.now k 0 c.loop-place-test.true))
          (places-next (take k c.args.places.now) place c.args.self.now.order.items c.loop-place.self.order.items c.mark.new.self.order.items c.loop-place.invariant.adds c.in_ok-mark.ensures.adds);
    }
