use Rattle.std.proofs.Common.{◌≡◌, sym, subst}
use Rattle.hack_routes.specs.InternalSearch.{Adds}
use Rattle.hack_routes.specs.InternalNamesView.{table}
use Rattle.hack_routes.proofs.ReachLemmas.{adds-one, adds-there}
use Rattle.hack_routes.proofs.PlaceLemmas.{placed-there}
use Rattle.hack_routes.proofs.names.Names.place_of.Goals as goal

pub returns-in-Some-clause-adds : goal.returns-in-Some-clause-adds
returns-in-Some-clause-adds c =
    adds-there (table c.args.self.now) c.args.name.now (placed-there (table c.args.self.now) c.in-Some.place c.args.name.now c.in-Some.ensures.0 c.in-Some.ensures.1)

pub returns-in_ok-add-in-None-clause-adds : goal.returns-in_ok-add-in-None-clause-adds
returns-in_ok-add-in-None-clause-adds c =
    subst (λ names. Adds (λ y. c.args.name.now ≡ y) (table c.args.self.now) names) (sym c.in_ok-add-in-None.ensures.added)
    (adds-one (table c.args.self.now) c.args.name.now c.in-None.ensures)
