use Rattle.std.proofs.Common.{◌≡◌, length, take, true, List, Bool}
use Rattle.hack_samples.specs.Sets.{has_each, rows_of, tables_of}
use Rattle.hack_samples.specs.Internal.{Meets, StaysWithin}
use Rattle.hack_samples.specs.Samples.{Shows}
use Rattle.hack_samples.proofs.search.+find.Given as goal

abbrev pub decreases-find : goal.decreases-find
decreases-find g l = length l.left.now

abbrev pub invariant-loop-row : goal.invariant-loop-row
invariant-loop-row g l = record {
  tried : (s : List Bool) → Meets (g.A.Allowed.may l.fn.allowed) (g.A.Allowed.size l.fn.allowed) (rows_of l.groups) l.banned s → Shows (tables_of l.wanted.providers.now) l.rest s → has_each s (rows_of (take l.row-index l.rows)) ≡ true;
  within : StaysWithin l.wanted.end (g.A.Allowed.count l.fn.allowed) (g.A.Allowed.count l.allowed);
  same_size : g.A.Allowed.size l.allowed ≡ g.A.Allowed.size l.fn.allowed;
  same_may : g.A.Allowed.may l.allowed ≡ g.A.Allowed.may l.fn.allowed;
  stays : (first : _) → g.A.Allowed.stays first l.fn.allowed → g.A.Allowed.stays first l.allowed;
}
