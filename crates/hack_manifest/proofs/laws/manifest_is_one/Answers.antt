use Rattle.hack_manifest.proofs.OnceLemmas.{read-once}
use Rattle.hack_manifest.proofs.laws.manifest_is_one.Goals as goal

pub returns : goal.returns
returns c = read-once
