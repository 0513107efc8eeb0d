use Rattle.std.proofs.Common.{◌≤◌, ◌∷◌, ℕ, List, Option, IsTrue, subst, arith}
use Rattle.std.proofs.lemmas.Bool.{leb-true}
use Rattle.hack_sets.specs.Sets.{IsWithin}
use Rattle.hack_features.specs.View.{may_of}
use Rattle.hack_sets.proofs.OpenLemmas.{too-long}
use Rattle.hack_powerset_list.proofs.walk.is_full.Goals as goal

pub returns-in-Some : goal.returns-in-Some
returns-in-Some c = λ full s is p.
    let r = c.args.rules.now in
    let reached : c.in-Some.most ≤ c.args.positions = leb-true c.in-Some.most c.args.positions full in
    too-long (may_of r) c.in-Some.most (p ∷ s)
    (subst (λ (most : Option ℕ). (t : List ℕ) → IsTrue (may_of r t) → IsWithin most t) c.in-Some.is c.most.ensures.within)
    (omega (arith, reached, is))
