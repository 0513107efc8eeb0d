use Rattle.std.proofs.Common.{◌≤◌, length}
use Rattle.hack_edits.specs.InternalArrays.{KeepsSome}
use Rattle.hack_edits.proofs.arrays.left_inside.Given as goal

abbrev pub invariant-loop-here : goal.invariant-loop-here
invariant-loop-here l = record {
  within : l.from ≤ length l.inside;
  some : KeepsSome l.inside l.from l.kept.items;
}
