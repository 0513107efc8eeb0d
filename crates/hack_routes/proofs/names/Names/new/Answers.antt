use Rattle.std.proofs.Common.{subst, sym, ap}
use Rattle.hack_base.specs.Names.{names_behind}
use Rattle.hack_routes.specs.InternalPlaces.{HasPlaces}
use Rattle.hack_routes.proofs.PlaceLemmas.{places-none}
use Rattle.hack_routes.proofs.names.Names.new.Goals as goal

pub returns-clause-in_step : goal.returns-clause-in_step
returns-clause-in_step c = subst (λ names. HasPlaces names c.new-2.result) (sym (ap names_behind c.new.ensures.items)) (places-none c.new-2.result c.new-2.ensures.empty)
