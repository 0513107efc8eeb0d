use Rattle.std.proofs.Common.{length, drop, ◌-◌, ◌≡◌, nat_eq, ◌+◌}
use Rattle.std.specs.List.{common_prefix_len}
use Rattle.hack_journal.proofs.cuts.common.Given as goal

-- what is shared so far, and behind that, is all that is
abbrev pub invariant-loop-count : goal.invariant-loop-count
invariant-loop-count l = l.count + common_prefix_len nat_eq (drop l.count l.a) (drop l.count l.b) ≡ common_prefix_len nat_eq l.a l.b

abbrev pub decreases-loop-count : goal.decreases-loop-count
decreases-loop-count l = length l.a - l.count
