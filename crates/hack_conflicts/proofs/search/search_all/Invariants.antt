use Rattle.std.proofs.Common.{◌+◌, ◌-◌, List, Bool, ◌⊎◌}
use Rattle.hack_conflicts.specs.Sets.{rows_of, IsInside}
use Rattle.hack_conflicts.specs.Rules.{IsChoice, size_of}
use Rattle.hack_conflicts.specs.Internal.{IsSound, Grows, IsSteady, IsQueue, IsSettled, told}
use Rattle.hack_conflicts.proofs.search.search_all.Given as goal

abbrev pub invariant-loop-done : goal.invariant-loop-done
invariant-loop-done g l = record {
  sound : IsSound l.rules l.most l.known;
  grows : Grows l.fn.known l.known;
  ran : (start : _) → g.B.Builds.ran (told l.fn.known) start l.fn.builder → g.B.Builds.ran (told l.known) start l.builder;
  steady : IsSteady l.rules (size_of l.rules - l.done) l.known;
  queue : IsQueue l.rules (size_of l.rules - l.done + 1) (rows_of l.left.items);
  leaves : (s : List Bool) → IsChoice l.rules s → IsSettled l.known s ⊎ IsInside (rows_of l.left.items) s;
}
