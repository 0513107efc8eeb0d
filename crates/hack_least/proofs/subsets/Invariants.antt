use Rattle.std.proofs.Common.{◌≤◌, ◌<◌, ◌+◌, ◌^◌}
use Rattle.hack_least.proofs.subsets.Given as goal

abbrev pub invariant-loop-member : goal.invariant-loop-member
invariant-loop-member l = record {
  least : l.least + 1 ≤ 2 ^ l._member;
  few : l.least < 2 ^ 62;
}
