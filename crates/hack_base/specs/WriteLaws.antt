-- Counts of failures only grow.
use Rattle.std.proofs.Common.{ℕ, Option, None, Some, arith, inl, inr}
use Rattle.std.proofs.Math.Nat.{eq-or-lt_of_le}
use Rattle.hack_base.specs.Writes.{HasFailed, NoFewer}

pub NoFewer-refl : (a : Option ℕ) → NoFewer a a
NoFewer-refl None = tt
NoFewer-refl (Some n) = omega arith

pub NoFewer-trans : (a b c : Option ℕ) → NoFewer a b → NoFewer b c → NoFewer a c
NoFewer-trans None b c p q = tt
NoFewer-trans (Some n) None c p q = absurd p
NoFewer-trans (Some n) (Some m) None p q = absurd q
NoFewer-trans (Some n) (Some m) (Some k) p q = omega (arith, p, q)

pub failed-later : (a b c : Option ℕ) → NoFewer a b → HasFailed b c → HasFailed a c
failed-later None b c p q = tt
failed-later (Some n) None c p q = absurd p
failed-later (Some n) (Some m) None p q = absurd q
failed-later (Some n) (Some m) (Some k) p q = (omega (arith, p, q.0), λ room. elim (eq-or-lt_of_le p) [ inl is ↦ omega (arith, is, q.1 (omega (arith, is, room))) | inr lt ↦ omega (arith, lt, q.0) ])

pub failed-first : (a b c : Option ℕ) → HasFailed a b → NoFewer b c → HasFailed a c
failed-first None b c p q = tt
failed-first (Some n) None c p q = absurd p
failed-first (Some n) (Some m) None p q = absurd q
failed-first (Some n) (Some m) (Some k) p q = (omega (arith, p.0, q), λ room. omega (arith, p.1 room, q))
