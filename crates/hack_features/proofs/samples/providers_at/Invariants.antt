use Rattle.std.proofs.Common.{◌≡◌, take, map}
use Rattle.hack_samples.specs.Sets.{rows_of}
use Rattle.hack_features.specs.InternalSamples.{providers_of}
use Rattle.hack_features.proofs.samples.providers_at.Given as goal

abbrev pub invariant-loop-y : goal.invariant-loop-y
invariant-loop-y l = rows_of l.rows.items ≡ map (providers_of (rows_of l.enabled.routes.marks.items) (rows_of l.enabled.candidates.items)) (take l.y-index l.names)
