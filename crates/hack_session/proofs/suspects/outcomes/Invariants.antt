use Rattle.std.proofs.Common.{◌≡◌, ◌++◌}
use Rattle.hack_suspects.specs.Suspects.{outcomes_of}
use Rattle.hack_session.specs.Suspects.{AreOutcomes}
use Rattle.hack_session.proofs.suspects.outcomes.Given as goal

abbrev pub invariant-loop-one : goal.invariant-loop-one
invariant-loop-one l = record {
  split : l.yielded ++ l.one-iterator ≡ l.session.handed;
  came : AreOutcomes l.session.plan l.part l.yielded (outcomes_of l.outcomes.items);
}
