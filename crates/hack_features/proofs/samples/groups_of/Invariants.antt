use Rattle.std.proofs.Common.{◌≡◌, take, map}
use Rattle.hack_samples.specs.Sets.{rows_of}
use Rattle.hack_features.specs.Samples.{positions_of}
use Rattle.hack_features.proofs.samples.groups_of.Given as goal

abbrev pub invariant-loop-row : goal.invariant-loop-row
invariant-loop-row l = rows_of l.groups.items ≡ map positions_of (take l.row-index (rows_of l.rows))
