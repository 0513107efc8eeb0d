use Rattle.std.proofs.Common.{◌<◌, ◌-◌, ◌++◌, ◌∷◌, []}
use Rattle.hack_samples.specs.Sets.{rows_of, tables_of}
use Rattle.hack_samples.specs.Samples.{SomeShows}
use Rattle.hack_samples.specs.InternalDescendingPatterns.{IsShownBelow}
use Rattle.hack_samples.specs.declared.sets.Setting.{Setting}
use Rattle.hack_samples.proofs.lean.+is_alone.Given as goal

abbrev pub decreases-is_alone : goal.decreases-is_alone
decreases-is_alone l = l.further.more

abbrev pub invariant-loop-candidate : goal.invariant-loop-candidate
invariant-loop-candidate l = record {
  shown : SomeShows (tables_of l.providers) l.pattern (rows_of l.among.before.now ++ rows_of l.among.behind.now);
  below : (x : Setting) → x.candidate < l.candidate → IsShownBelow (tables_of l.providers) l.among.set.now (l.pattern ++ x ∷ []) x.candidate (l.further.more - 1) (rows_of l.among.before.now ++ rows_of l.among.behind.now);
}
