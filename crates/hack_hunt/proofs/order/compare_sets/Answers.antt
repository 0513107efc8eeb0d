use Rattle.std.specs.Ordering.{nat_cmp}
use Rattle.std.proofs.lemmas.Iterator.Adapters.{YieldsList-from_rev_slice}
use Rattle.std.proofs.lemmas.Iterator.Search.{cmp_from_yields_List}
use Rattle.std.proofs.Common.{◌≡◌, refl}
use Rattle.hack_hunt.proofs.order.compare_sets.Goals as goal

pub returns : goal.returns
returns c = cmp_from_yields_List (λ x y. y ≡ x) _ nat_cmp _ c.cmp.ensures.ran (YieldsList-from_rev_slice c.args.first.now cc) (λ it e. YieldsList-from_rev_slice c.args.second.now cc) (λ x y. refl)
