use Rattle.std.proofs.Common.{◌≡◌, length, true}
use Rattle.hack_features.specs.Samples.{positions_of, IsSame}
use Rattle.hack_features.specs.View.{may_of, size_of}
use Rattle.hack_least.proofs.large_set.Given as goal

abbrev pub invariant-loop-number : goal.invariant-loop-number
invariant-loop-number l = record {
  size : length l.set.items ≡ size_of l.fn.rules;
  permitted : may_of l.fn.rules (positions_of l.set.items) ≡ true;
  same : IsSame l.fn.rules l.rules;
}
