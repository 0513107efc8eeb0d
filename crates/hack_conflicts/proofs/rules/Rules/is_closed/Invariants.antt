use Rattle.std.proofs.Common.{ℕ, ◌<◌}
use Rattle.hack_conflicts.specs.Sets.{Has, IsWithin}
use Rattle.hack_conflicts.specs.Rules.{row_of, size_of}
use Rattle.hack_conflicts.proofs.rules.Rules.is_closed.Given as goal

abbrev pub invariant-loop-p : goal.invariant-loop-p
invariant-loop-p l = (p : ℕ) → p < l.p → Has l.set p → (p < size_of l.self) × IsWithin (row_of l.self p) l.set
