use Rattle.hack_manifest.proofs.RunLemmas.{IsCharBoundary-lines}
use Rattle.hack_manifest.proofs.runs.run_stands.Goals as goal

pub range-requires-clause-end_boundary : goal.range-requires-clause-end_boundary
range-requires-clause-end_boundary c = IsCharBoundary-lines _ _ c.utf8.text (c.ends_line.ensures.0 c.if-ends_line.true)
