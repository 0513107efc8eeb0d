use Rattle.std.proofs.Common.{◌≡◌, ◌++◌, drop, map, string_bytes}
use Rattle.hack_rules.specs.Uses.{views}
use Rattle.hack_rules.specs.PassedWords.{leading_of}
use Rattle.hack_rules.proofs.uses.passed.leading.Given as goal

abbrev pub invariant-loop-one : goal.invariant-loop-one
invariant-loop-one l = map string_bytes l.leading.items ++ leading_of l.behavior (views (drop l.one-index l.uses)) ≡ leading_of l.behavior (views l.uses)
