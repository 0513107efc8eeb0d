use Rattle.std.proofs.Common.{◌≡◌, ◌↔◌, take, false, length, List, Bool}
use Rattle.hack_samples.specs.Sets.{has_one_of}
use Rattle.hack_samples.specs.Internal.{IsClear}
use Rattle.hack_samples.proofs.demands.ban.Given as goal

abbrev pub invariant-loop-position : goal.invariant-loop-position
invariant-loop-position l = record {
  size : length l.banned.items ≡ length l.fn.banned.items;
  clear : (s : List Bool) → length s ≡ length l.fn.banned.items → IsClear l.banned.items s ↔ (IsClear l.fn.banned.items s × (has_one_of s (take l.position-index l.group) ≡ false));
}
