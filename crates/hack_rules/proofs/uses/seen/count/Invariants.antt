use Rattle.std.proofs.Common.{◌≡◌, ◌+◌, ◌≤◌, drop, length}
use Rattle.std.specs.List.{filter}
use Rattle.hack_rules.specs.Uses.{is_use_of, views}
use Rattle.hack_rules.proofs.uses.seen.count.Given as goal

abbrev pub invariant-loop-one : goal.invariant-loop-one
invariant-loop-one l = (l.count + length (filter (is_use_of l.option) (views (drop l.one-index l.uses))) ≡ length (filter (is_use_of l.option) (views l.uses))) × (l.count ≤ l.one-index)
