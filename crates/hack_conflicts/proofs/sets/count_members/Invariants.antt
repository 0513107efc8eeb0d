use Rattle.std.proofs.Common.{◌≡◌, ◌≤◌}
use Rattle.hack_conflicts.specs.Internal.{members}
use Rattle.hack_conflicts.proofs.sets.count_members.Given as goal

abbrev pub invariant-loop-p : goal.invariant-loop-p
invariant-loop-p l = record {
  count : l.count ≡ members l.p l.set;
  most : l.count ≤ l.p;
}
