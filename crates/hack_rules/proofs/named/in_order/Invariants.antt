use Rattle.std.proofs.Common.{◌≡◌, ◌++◌}
use Rattle.hack_rules.proofs.named.in_order.Given as goal

abbrev pub invariant-loop-text : goal.invariant-loop-text
invariant-loop-text l = l.texts.items ++ l.text-iterator ≡ l.fn.set.keys
