use Rattle.std.proofs.Common.{◌≡◌, ap, sym, subst, ◌∙◌, true, false}
use Rattle.hack_base.specs.Names.{names_behind}
use Rattle.hack_routes.specs.NameSets.{has_name}
use Rattle.hack_routes.specs.InternalSearch.{HasJust, Adds}
use Rattle.hack_base.proofs.Members.{not_from}
use Rattle.hack_base.proofs.NameLemmas.{shown-push}
use Rattle.hack_routes.proofs.NameSetLemmas.{has_just-more}
use Rattle.hack_routes.proofs.ReachLemmas.{adds-one, adds-there}
use Rattle.hack_routes.proofs.reach.Found.add.Goals as goal

pub returns-in_ok-push-clause-in_step : goal.returns-in_ok-push-clause-in_step
returns-in_ok-push-clause-in_step c =
    subst (λ names. HasJust c.insert.new.self names) (sym (ap names_behind c.in_ok-push.ensures.items ∙ shown-push c.args.self.now.order.items c.args.name))
    (has_just-more (names_behind c.args.self.now.order.items) c.args.name.now c.args.self.now.seen c.insert.new.self c.requires (λ y. c.in_ok-insert.ensures.updates.0 (record { ref_ptr = (0, 0); now = y })))

pub returns-in_ok-push-clause-adds : goal.returns-in_ok-push-clause-adds
returns-in_ok-push-clause-adds c =
    let absent : has_name c.args.self.now.seen c.args.name.now ≡ false = sym c.contains.ensures ∙ c.if-not-contains.true in
    subst (λ names. Adds (λ y. c.args.name.now ≡ y) (names_behind c.args.self.now.order.items) names) (sym (ap names_behind c.in_ok-push.ensures.items ∙ shown-push c.args.self.now.order.items c.args.name))
    (adds-one (names_behind c.args.self.now.order.items) c.args.name.now (not_from (has_name c.args.self.now.seen c.args.name.now) absent (c.requires c.args.name.now).1))

pub returns-else-not-contains-clause-adds : goal.returns-else-not-contains-clause-adds
returns-else-not-contains-clause-adds c =
    let present : has_name c.args.self.now.seen c.args.name.now ≡ true = sym c.contains.ensures ∙ c.if-not-contains.false in
    adds-there (names_behind c.args.self.now.order.items) c.args.name.now ((c.requires c.args.name.now).0 present)
