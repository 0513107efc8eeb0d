use Rattle.std.proofs.Common.{◌≡◌, length, take, false, List, Bool}
use Rattle.hack_samples.specs.Sets.{has_one_of, IsInside, rows_of}
use Rattle.hack_samples.specs.Internal.{Meets, StaysWithin}
use Rattle.hack_samples.proofs.search.+meet.Given as goal

abbrev pub decreases-meet : goal.decreases-meet
decreases-meet g l = length l.groups.now

abbrev pub invariant-loop-position : goal.invariant-loop-position
invariant-loop-position g l = record {
  tried : (s : List Bool) → IsInside l.set s → Meets (g.A.Allowed.may l.fn.allowed) (g.A.Allowed.size l.fn.allowed) (rows_of l.groups) l.banned s → has_one_of s (take l.position-index l.position-items) ≡ false;
  within : StaysWithin l.end (g.A.Allowed.count l.fn.allowed) (g.A.Allowed.count l.allowed);
  same_size : g.A.Allowed.size l.allowed ≡ g.A.Allowed.size l.fn.allowed;
  same_may : g.A.Allowed.may l.allowed ≡ g.A.Allowed.may l.fn.allowed;
  stays : (first : _) → g.A.Allowed.stays first l.fn.allowed → g.A.Allowed.stays first l.allowed;
}
