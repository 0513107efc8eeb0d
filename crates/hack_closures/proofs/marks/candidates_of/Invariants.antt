use Rattle.std.proofs.Common.{◌≡◌, take}
use Rattle.hack_closures.specs.Internal.{candidates_of}
use Rattle.hack_closures.proofs.marks.candidates_of.Given as goal

abbrev pub invariant-loop-x : goal.invariant-loop-x
invariant-loop-x l = l.found.items ≡ candidates_of (take l.x l.alone) l.set
