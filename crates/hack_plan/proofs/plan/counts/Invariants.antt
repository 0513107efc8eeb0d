use Rattle.std.proofs.Common.{◌≡◌, take}
use Rattle.hack_plan.specs.Plans.{counts_in}
use Rattle.hack_plan.proofs.plan.counts.Given as goal

abbrev pub invariant-loop-member : goal.invariant-loop-member
invariant-loop-member l = l.counts.items ≡ counts_in (take l.member-index l.packages)
