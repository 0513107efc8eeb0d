use Rattle.std.proofs.Common.{◌≡◌, true}
use Rattle.hack_samples.specs.Sets.{IsInside}
use Rattle.hack_features.specs.Samples.{positions_of}
use Rattle.hack_features.specs.View.{whole_of}
use Rattle.hack_least.proofs.needed.Given as goal

abbrev pub invariant-loop-position : goal.invariant-loop-position
invariant-loop-position l = record {
  inside : IsInside l.kept.items l.set;
  serves : whole_of l.rules (positions_of l.kept.items) ≡ true;
}
