use Rattle.hack_routes.specs.InternalNamesView.{table}
use Rattle.hack_routes.proofs.PlaceLemmas.{place-found, place-missing}
use Rattle.hack_routes.proofs.names.Names.find.Goals as goal

pub returns-in-Some : goal.returns-in-Some
returns-in-Some c = place-found (table c.args.self.now) c.args.self.now.places c.args.name.now c.in-Some.place.now c.requires c.in-Some.ensures.value

pub returns-in-None : goal.returns-in-None
returns-in-None c = place-missing (table c.args.self.now) c.args.self.now.places c.args.name.now c.requires c.in-None.ensures.value
