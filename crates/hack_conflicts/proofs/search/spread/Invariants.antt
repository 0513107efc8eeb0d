use Rattle.hack_conflicts.specs.Sets.{rows_of}
use Rattle.hack_conflicts.proofs.QueueLemmas.{Spreads}
use Rattle.hack_conflicts.proofs.search.spread.Given as goal

abbrev pub invariant-loop-x : goal.invariant-loop-x
invariant-loop-x l = Spreads l.rules l.set l.conflict l.x (rows_of l.fn.next.items) (rows_of l.next.items)
