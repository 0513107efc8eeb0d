use Rattle.std.proofs.Common.{◌≡◌, take, map}
use Rattle.hack_samples.specs.Sets.{rows_of}
use Rattle.hack_features.specs.InternalSamples.{one_leads}
use Rattle.hack_features.proofs.samples.providers_of.Given as goal

abbrev pub invariant-loop-names : goal.invariant-loop-names
invariant-loop-names l = l.leading.items ≡ map (one_leads (rows_of l.enabled.routes.marks.items) l.y) (take l.names-index (rows_of l.enabled.candidates.items))
