use Rattle.std.proofs.Common.{◌≡◌, ◌<◌, ◌-◌, ◌++◌, ◌∷◌, []}
use Rattle.hack_samples.specs.Sets.{rows_of, tables_of}
use Rattle.hack_samples.specs.Samples.{IsMaskSample, SomeShows}
use Rattle.hack_samples.specs.InternalDescendingPatterns.{CoversBelow, AreKept}
use Rattle.hack_samples.specs.Internal.{StaysWithin}
use Rattle.hack_samples.specs.declared.sets.Setting.{Setting}
use Rattle.hack_samples.proofs.cover.+cover.Given as goal

abbrev pub decreases-cover : goal.decreases-cover
decreases-cover g l = l.further.more

abbrev pub invariant-loop-candidate : goal.invariant-loop-candidate
invariant-loop-candidate g l = record {
  sample : IsMaskSample (g.A.Allowed.may l.fn.allowed) (g.A.Allowed.size l.fn.allowed) (rows_of l.wanted.required.now) (rows_of l.chosen.sets.items);
  kept : AreKept (rows_of l.fn.chosen.sets.items) (rows_of l.chosen.sets.items);
  shown : SomeShows (tables_of l.wanted.providers.now) l.pattern (rows_of l.chosen.sets.items);
  covered : (x : Setting) → x.candidate < l.candidate → CoversBelow (g.A.Allowed.may l.fn.allowed) (g.A.Allowed.size l.fn.allowed) (rows_of l.wanted.required.now) (tables_of l.wanted.providers.now) (l.pattern ++ x ∷ []) x.candidate (l.further.more - 1) (rows_of l.chosen.sets.items);
  within : StaysWithin l.wanted.end (g.A.Allowed.count l.fn.allowed) (g.A.Allowed.count l.allowed);
  same_size : g.A.Allowed.size l.allowed ≡ g.A.Allowed.size l.fn.allowed;
  same_may : g.A.Allowed.may l.allowed ≡ g.A.Allowed.may l.fn.allowed;
  stays : (first : _) → g.A.Allowed.stays first l.fn.allowed → g.A.Allowed.stays first l.allowed;
}
