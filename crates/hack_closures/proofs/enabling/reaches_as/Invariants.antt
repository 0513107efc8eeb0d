use Rattle.std.proofs.Common.{ℕ, ◌<◌, [], get_or}
use Rattle.hack_features.specs.Rules.{CandidateReaches}
use Rattle.hack_features.specs.View.{choice_of}
use Rattle.hack_closures.proofs.enabling.reaches_as.Given as goal

abbrev pub invariant-loop-group : goal.invariant-loop-group
invariant-loop-group l = (k : ℕ) → k < l.group → CandidateReaches (choice_of l.rules) (get_or (choice_of l.rules).exclusive k []) l.q → CandidateReaches (choice_of l.rules) (get_or (choice_of l.rules).exclusive k []) l.p
