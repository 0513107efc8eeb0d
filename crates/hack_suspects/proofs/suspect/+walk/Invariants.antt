use Rattle.std.proofs.Common.{◌≡◌, ◌≤◌, ◌<◌, ◌+◌, ◌-◌, ◌++◌, ◌∷◌, [], false, Some}
use Rattle.std.specs.Prelude.{slice_get}
use Rattle.hack_samples.specs.Sets.{rows_of}
use Rattle.hack_suspects.specs.Suspects.{IsShown, outcomes_of}
use Rattle.hack_suspects.specs.InternalWalks.{AreSomeSuspects, PatternsAreKept, FindsFrom}
use Rattle.hack_samples.specs.declared.sets.Setting.{Setting}
use Rattle.hack_suspects.proofs.suspect.+walk.Given as goal

abbrev pub decreases-walk : goal.decreases-walk
decreases-walk l = l.more

abbrev pub invariant-loop-candidate : goal.invariant-loop-candidate
invariant-loop-candidate l = record {
  sound : AreSomeSuspects (outcomes_of l.search.outcomes.now) l.search.candidates l.search.strength (rows_of l.found.items);
  kept : PatternsAreKept (rows_of l.fn.found.items) (rows_of l.found.items);
  passed : IsShown false (outcomes_of l.search.outcomes.now) l.pattern.items;
  all : (x : Setting) → l.first ≤ x.candidate → x.candidate < l.candidate → slice_get l.search.row.now x.candidate ≡ Some x.on → FindsFrom (outcomes_of l.search.outcomes.now) l.search.candidates l.search.strength l.search.row.now (l.pattern.items ++ x ∷ []) (x.candidate + 1) (l.more - 1) (rows_of l.found.items);
}
