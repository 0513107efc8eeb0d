use Rattle.std.proofs.Common.{ℕ, ◌<◌, [], get_or}
use Rattle.hack_conflicts.specs.Sets.{rows_of}
use Rattle.hack_conflicts.specs.Internal.{IsSound, Grows, IsSteady, IsQueue, Leaves, told}
use Rattle.hack_conflicts.proofs.search.search_level.Given as goal

abbrev pub invariant-loop-place : goal.invariant-loop-place
invariant-loop-place g l = record {
  sound : IsSound l.rules l.most l.known;
  grows : Grows l.fn.known l.known;
  ran : (start : _) → g.B.Builds.ran (told l.fn.known) start l.fn.builder → g.B.Builds.ran (told l.known) start l.builder;
  steady : IsSteady l.rules l.size l.known;
  queue : IsQueue l.rules l.size (rows_of l.next.items);
  leaves : (k : ℕ) → k < l.place → Leaves l.rules l.known (get_or (rows_of l.left) k []) (rows_of l.next.items);
}
