use Rattle.std.proofs.Common.{◌≡◌, ◌∙◌, ◌&&◌, not, Bool, true, false, ap, sym}
use Rattle.hack_routes.proofs.LinkLemmas.{key_at}
use Rattle.hack_load.proofs.features.is_implicit.Goals as goal

no_key : (k n a b : Bool) → k ≡ false → k ≡ a → n ≡ b → not n ≡ (not a && not b)
no_key k n false b e f g = ap not g
no_key k n true b e f g = let z : false ≡ true = sym e ∙ f in cc

key : (k a b : Bool) → k ≡ true → k ≡ a → not k ≡ (not a && not b)
key k true b e f = ap not f
key k false b e f = let z : true ≡ false = sym e ∙ f in cc

pub returns-then-not-contains_key : goal.returns-then-not-contains_key
returns-then-not-contains_key c =
    no_key c.contains_key.result c.is_named.result _ _ c.if-not-contains_key.true (c.contains_key.ensures ∙ key_at c.args.features.now c.args.dep.now) c.is_named.ensures

pub returns-else-not-contains_key : goal.returns-else-not-contains_key
returns-else-not-contains_key c =
    key c.contains_key.result _ _ c.if-not-contains_key.false (c.contains_key.ensures ∙ key_at c.args.features.now c.args.dep.now)
