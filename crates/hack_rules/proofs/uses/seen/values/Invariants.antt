use Rattle.std.proofs.Common.{◌≡◌, ◌++◌, drop, map, string_bytes}
use Rattle.hack_rules.specs.Uses.{views}
use Rattle.hack_rules.specs.Values.{values_given}
use Rattle.hack_rules.proofs.uses.seen.values.Given as goal

abbrev pub invariant-loop-one : goal.invariant-loop-one
invariant-loop-one l = map string_bytes l.values.items ++ values_given l.option (views (drop l.one-index l.uses)) ≡ values_given l.option (views l.uses)
