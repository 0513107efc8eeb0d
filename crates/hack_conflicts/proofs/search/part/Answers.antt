use Rattle.std.proofs.Common.{inl, inr}
use Rattle.hack_conflicts.proofs.ShrinkLemmas.{lacks_one}
use Rattle.hack_conflicts.proofs.search.part.Goals as goal

pub returns-clause-queue : goal.returns-clause-queue
returns-clause-queue c = λ size le q. c.in_ok-add_without-2.ensures.queue size le (c.in_ok-add_without.ensures.queue size le q)

pub returns-clause-covered : goal.returns-clause-covered
returns-clause-covered c = λ s inside. c.in_ok-add_without-2.ensures.covered s (c.in_ok-add_without.ensures.covered s inside)

pub returns-clause-avoids : goal.returns-clause-avoids
returns-clause-avoids c = λ s choice within. elim (lacks_one c.args.rules.now c.args.set.now s c.args.p c.args.q c.requires.clash choice within) [
  | inl lacks ↦ c.in_ok-add_without-2.ensures.covered s (c.in_ok-add_without.ensures.avoids s choice.closed within lacks)
  | inr lacks ↦ c.in_ok-add_without-2.ensures.avoids s choice.closed within lacks
]
