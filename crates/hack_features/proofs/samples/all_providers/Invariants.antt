use Rattle.std.proofs.Common.{◌≡◌, take, map}
use Rattle.hack_samples.specs.Sets.{tables_of, rows_of}
use Rattle.hack_features.specs.InternalSamples.{providers_of}
use Rattle.hack_features.proofs.samples.all_providers.Given as goal

abbrev pub invariant-loop-names : goal.invariant-loop-names
invariant-loop-names l = tables_of l.tables.items ≡ map (map (providers_of (rows_of l.enabled.routes.marks.items) (rows_of l.enabled.candidates.items))) (take l.names-index (rows_of l.enabled.candidates.items))
