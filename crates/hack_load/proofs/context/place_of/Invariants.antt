use Rattle.std.proofs.Common.{◌≡◌, ◌==◌, ℕ, ◌<◌, false, map, get_or}
use Rattle.hack_metadata.specs.RecordViews.{place_at}
use Rattle.hack_load.proofs.context.place_of.Given as goal

-- no member so far is the one
abbrev pub invariant-loop-at : goal.invariant-loop-at
invariant-loop-at l = (k d : ℕ) → k < l.at → (get_or (map place_at l.members) k d == l.id.index) ≡ false
