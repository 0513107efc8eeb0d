use Rattle.std.proofs.Common.{◌≡◌, ◌≤◌, ◌++◌, [], length, get_or}
use Rattle.std.specs.Prelude.{reverse}
use Rattle.hack_sets.specs.Forest.{sets_of}
use Rattle.hack_sets.proofs.forest.Forest.read.Given as goal

abbrev pub invariant-loop-at : goal.invariant-loop-at
invariant-loop-at l = record {
  inside : l.at ≤ length l.self.links.items;
  read : get_or (sets_of l.self) l.place [] ≡ get_or (sets_of l.self) l.at [] ++ reverse l.set.items;
}

abbrev pub decreases-loop-at : goal.decreases-loop-at
decreases-loop-at l = l.at
