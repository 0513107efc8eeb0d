use Rattle.std.proofs.Common.{◌≡◌}
use Rattle.hack_samples.specs.Sets.{rows_of}
use Rattle.hack_samples.specs.Samples.{IsMaskSample}
use Rattle.hack_samples.specs.Internal.{StaysWithin}
use Rattle.hack_samples.proofs.cover.sample_by.Given as goal

abbrev pub invariant-loop-row : goal.invariant-loop-row
invariant-loop-row g l = record {
  sample : IsMaskSample (g.A.Allowed.may l.fn.allowed) (g.A.Allowed.size l.fn.allowed) (rows_of l.wanted.required.now) (rows_of l.chosen.sets.items);
  within : StaysWithin l.wanted.end (g.A.Allowed.count l.fn.allowed) (g.A.Allowed.count l.allowed);
  same_size : g.A.Allowed.size l.allowed ≡ g.A.Allowed.size l.fn.allowed;
  same_may : g.A.Allowed.may l.allowed ≡ g.A.Allowed.may l.fn.allowed;
  stays : (first : _) → g.A.Allowed.stays first l.fn.allowed → g.A.Allowed.stays first l.allowed;
}
