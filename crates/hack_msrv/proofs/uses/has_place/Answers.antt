use Rattle.std.proofs.Common.{rules, tests, refl}
use Rattle.std.proofs.lemmas.Iterator.{YieldsList-from_range}
use Rattle.std.proofs.lemmas.Iterator.Search.{any_from_yields_List}
use Rattle.hack_msrv.specs.Trials.{is_of}
use Rattle.hack_msrv.proofs.uses.has_place.Goals as goal

pub returns : goal.returns
returns c = any_from_yields_List (is_of c.args.plan.now c.args.member) _ _ _ c.any.ensures.ran (YieldsList-from_range c.args.first c.args.end _ (cc) refl) (λ x b q k. search (rules, tests))
