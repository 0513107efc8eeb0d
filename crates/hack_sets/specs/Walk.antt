-- The permitted sets by a walk in the order of sets, which looks at one of them at a time.
use Rattle.std.specs.Prelude.{ℕ, zero, suc, List, [], ◌∷◌, ◌++◌, Bool, if◌then◌else◌}

-- the permitted sets of s and some positions below p, which come after s in the order of sets
abbrev pub below : (List ℕ → Bool) → ℕ → List ℕ → List (List ℕ)
below may zero s = []
below may (suc p) s = below may p s ++ (if may (p ∷ s) then (p ∷ s) ∷ below may p (p ∷ s) else [])
