use Rattle.hack_manifest.proofs.RunLemmas.{has_keys-table}
use Rattle.hack_manifest.proofs.runs.stands_alone.Goals as goal

pub returns-in-Ok : goal.returns-in-Ok
returns-in-Ok c = rw (c.in-Ok.ensures.ok) (has_keys-table _ _ c.is_empty.ensures)
