use Rattle.std.proofs.Common.{◌≡◌, Some, length, ◌∙◌, sym, ap, subst, arith}
use Rattle.std.specs.Map.{update}
use Rattle.std.specs.Str.{bytes_eq}
use Rattle.std.proofs.lemmas.Map.Text.{btree_map_updates_str}
use Rattle.hack_base.specs.Names.{Name, names_behind}
use Rattle.hack_routes.specs.NameSets.{get_at}
use Rattle.hack_routes.specs.InternalPlaces.{HasPlaces}
use Rattle.hack_routes.specs.InternalNamesView.{table}
use Rattle.hack_base.proofs.NameLemmas.{shown-push, length-shown}
use Rattle.hack_routes.proofs.PlaceLemmas.{places-push}
use Rattle.hack_routes.proofs.names.Names.add.Goals as goal

pub returns-clause-in_step : goal.returns-clause-in_step
returns-clause-in_step c =
    let old = table c.args.self.now in
    let place : c.len-place.result ≡ length old = omega (arith, c.len-place.ensures, length-shown c.args.self.now.texts.items, c.args.self.now.texts.ok.0) in
    subst (λ names. HasPlaces names c.insert.new.self) (sym (ap names_behind c.in_ok-push.ensures.items ∙ shown-push c.args.self.now.texts.items c.args.name))
    (places-push old c.args.name.now c.args.self.now.places c.insert.new.self c.requires.in_step c.requires.new
    (subst (λ p. (y : Name) → get_at c.insert.new.self y ≡ update bytes_eq (get_at c.args.self.now.places) c.args.name.now (Some p) y) place
    (btree_map_updates_str c.args.name.now c.args.self.now.places c.insert.new.self (Some c.len-place.result) c.in_ok-insert.ensures.updates)))

pub returns-clause-place : goal.returns-clause-place
returns-clause-place c = omega (arith, c.len-place.ensures, length-shown c.args.self.now.texts.items, c.args.self.now.texts.ok.0)

pub returns-clause-added : goal.returns-clause-added
returns-clause-added c = ap names_behind c.in_ok-push.ensures.items ∙ shown-push c.args.self.now.texts.items c.args.name
