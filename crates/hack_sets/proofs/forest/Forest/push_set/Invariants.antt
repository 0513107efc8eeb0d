use Rattle.std.proofs.Common.{◌≡◌, ◌<◌, ◌++◌, take, length, get_or, [], List, ℕ}
use Rattle.hack_sets.specs.Forest.{sets_of}
use Rattle.hack_sets.proofs.forest.Forest.push_set.Given as goal

abbrev pub invariant-loop-position : goal.invariant-loop-position
invariant-loop-position l = record {
  within : l.at < length (sets_of l.self);
  set : get_or (sets_of l.self) l.at [] ≡ take l.position-index l.set;
  kept : (more : List (List ℕ)) × (sets_of l.self ≡ sets_of l.fn.self ++ more);
}
