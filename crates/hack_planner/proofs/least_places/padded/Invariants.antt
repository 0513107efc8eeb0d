use Rattle.std.proofs.Common.{◌≡◌, ◌≤◌, ℕ, get_or, length}
use Rattle.hack_planner.proofs.least_places.padded.Given as goal

-- the numbers so far
abbrev pub invariant-loop-place : goal.invariant-loop-place
invariant-loop-place l = (l.place ≤ l.packages) × (length l.all.items ≡ l.place) × ((p : ℕ) → get_or l.all.items p 0 ≤ get_or l.counts p 0)
