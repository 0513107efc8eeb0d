-- One text of several.
use Rattle.std.proofs.Common.{◌≡◌, ℕ, List, [], ◌∷◌, take, drop, map, ap, suc, zero, Some}
use Rattle.std.specs.List.{slice_get}
use Rattle.std.specs.Option.{unwrap_or}

-- one text of several
pub one-at : {X Y : Type 0} (f : X → Y) (xs : List X) (i : ℕ) (x : X) → slice_get xs i ≡ Some x → take 1 (drop i (map f xs)) ≡ f x ∷ []
one-at f [] i x e = absurd (cc)
one-at f (y ∷ ys) zero x e = ap (λ o. f (unwrap_or o y) ∷ []) e
one-at f (y ∷ ys) (suc i) x e = one-at f ys i x e
