use Rattle.std.proofs.Common.{◌≡◌}
use Rattle.hack_samples.specs.Sets.{IsInside}
use Rattle.hack_samples.specs.Internal.{IsSuited, StaysWithin}
use Rattle.hack_samples.proofs.greedy.turn.Given as goal

abbrev pub invariant-loop-row : goal.invariant-loop-row
invariant-loop-row g l = record {
  suited : IsSuited (g.A.Allowed.may l.fn.allowed) (g.A.Allowed.size l.fn.allowed) l.fn.held.items l.set.items;
  inside : IsInside l.fn.set.items l.set.items;
  within : StaysWithin l.end (g.A.Allowed.count l.fn.allowed) (g.A.Allowed.count l.allowed);
  same_size : g.A.Allowed.size l.allowed ≡ g.A.Allowed.size l.fn.allowed;
  same_may : g.A.Allowed.may l.allowed ≡ g.A.Allowed.may l.fn.allowed;
  stays : (first : _) → g.A.Allowed.stays first l.fn.allowed → g.A.Allowed.stays first l.allowed;
}
