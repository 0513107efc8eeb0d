use Rattle.std.proofs.Common.{ℕ, ◌<◌, IsTrue}
use Rattle.hack_conflicts.specs.Sets.{IsWithin}
use Rattle.hack_conflicts.specs.Rules.{enables, row_of, size_of}
use Rattle.hack_conflicts.proofs.rules.Rules.is_whole.Given as goal

abbrev pub invariant-loop-y : goal.invariant-loop-y
invariant-loop-y l = (y : ℕ) → y < l.y → IsTrue (enables l.self l.x y) → (y < size_of l.self) × IsWithin (row_of l.self y) (row_of l.self l.x)
