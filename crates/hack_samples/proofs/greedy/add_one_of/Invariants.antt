use Rattle.std.proofs.Common.{◌≡◌}
use Rattle.hack_samples.specs.Internal.{StaysWithin}
use Rattle.hack_samples.proofs.greedy.add_one_of.Given as goal

abbrev pub invariant-loop-position : goal.invariant-loop-position
invariant-loop-position g l = record {
  same : l.set.items ≡ l.fn.set.items;
  within : StaysWithin l.end (g.A.Allowed.count l.fn.allowed) (g.A.Allowed.count l.allowed);
  same_size : g.A.Allowed.size l.allowed ≡ g.A.Allowed.size l.fn.allowed;
  same_may : g.A.Allowed.may l.allowed ≡ g.A.Allowed.may l.fn.allowed;
  stays : (first : _) → g.A.Allowed.stays first l.fn.allowed → g.A.Allowed.stays first l.allowed;
}
