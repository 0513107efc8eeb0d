use Rattle.std.proofs.Common.{◌≡◌, length, true}
use Rattle.hack_features.specs.Samples.{positions_of, IsSame}
use Rattle.hack_features.specs.View.{may_of}
use Rattle.hack_least.proofs.grow.Given as goal

abbrev pub invariant-loop-position : goal.invariant-loop-position
invariant-loop-position l = record {
  size : length l.set.items ≡ length l.fn.set.items;
  permitted : may_of l.fn.rules (positions_of l.set.items) ≡ true;
  same : IsSame l.fn.rules l.rules;
}
