use Rattle.std.proofs.Common.{◌≡◌, take, map}
use Rattle.hack_conflicts.specs.Sets.{mark}
use Rattle.hack_closures.proofs.marks.marks_of.Given as goal

abbrev pub invariant-loop-p : goal.invariant-loop-p
invariant-loop-p l = l.marks.items ≡ map (mark l.row) (take l.p-index l.candidates)
