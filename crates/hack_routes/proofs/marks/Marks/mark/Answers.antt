use Rattle.std.proofs.Common.{◌≡◌, set, true, false, ◌∙◌, sym, subst}
use Rattle.std.proofs.lemmas.List.{get_or_default}
use Rattle.hack_routes.specs.InternalPlaces.{AreMarked, AddsPlaces}
use Rattle.hack_routes.proofs.MarkLemmas.{marked-more, places-one}
use Rattle.hack_routes.proofs.marks.Marks.mark.Goals as goal

pub returns-in_ok-push-clause-marked : goal.returns-in_ok-push-clause-marked
returns-in_ok-push-clause-marked c =
    let marks = c.args.self.now.marks.items in
    let order = c.args.self.now.order.items in
    subst (AreMarked (set marks c.args.place true)) (sym c.in_ok-push.ensures.items)
    (marked-more marks order c.args.place c.requires.marked c.requires.within
    (get_or_default marks c.args.place false c.index.result.now c.requires.within ∙ sym c.index.ensures ∙ c.if-not-index.true))

pub returns-in_ok-push-clause-adds : goal.returns-in_ok-push-clause-adds
returns-in_ok-push-clause-adds c =
    subst (AddsPlaces (λ j. c.args.place ≡ j) c.args.self.now.order.items) (sym c.in_ok-push.ensures.items) (places-one c.args.self.now.order.items c.args.place)
