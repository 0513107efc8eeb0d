use Rattle.std.proofs.Common.{◌≡◌, length, List, Bool}
use Rattle.hack_samples.specs.Sets.{IsInside}
use Rattle.hack_samples.specs.Internal.{IsClear, IsSuited, StaysWithin}
use Rattle.hack_samples.proofs.greedy.pack_once.Given as goal

abbrev pub invariant-loop-candidate : goal.invariant-loop-candidate
invariant-loop-candidate g l = record {
  size : length l.held.items ≡ g.A.Allowed.size l.fn.allowed;
  suited : IsSuited (g.A.Allowed.may l.fn.allowed) (g.A.Allowed.size l.fn.allowed) l.held.items l.set.items;
  inside : IsInside l.fn.set l.set.items;
  clear : (s : List Bool) → length s ≡ g.A.Allowed.size l.fn.allowed → IsClear l.held.items s → IsClear l.banned s;
  within : StaysWithin l.wanted.end (g.A.Allowed.count l.fn.allowed) (g.A.Allowed.count l.allowed);
  same_size : g.A.Allowed.size l.allowed ≡ g.A.Allowed.size l.fn.allowed;
  same_may : g.A.Allowed.may l.allowed ≡ g.A.Allowed.may l.fn.allowed;
  stays : (first : _) → g.A.Allowed.stays first l.fn.allowed → g.A.Allowed.stays first l.allowed;
}
