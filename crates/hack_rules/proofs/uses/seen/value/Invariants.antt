use Rattle.std.proofs.Common.{◌≡◌, drop}
use Rattle.hack_rules.specs.Uses.{views}
use Rattle.hack_rules.specs.Values.{value_given}
use Rattle.hack_rules.proofs.uses.seen.value.Given as goal

abbrev pub invariant-loop-one : goal.invariant-loop-one
invariant-loop-one l = value_given l.option (views l.uses) ≡ value_given l.option (views (drop l.one-index l.uses))
