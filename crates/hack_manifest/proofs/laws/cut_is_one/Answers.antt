use Rattle.hack_manifest.proofs.OnceLemmas.{cut-once}
use Rattle.hack_manifest.proofs.laws.cut_is_one.Goals as goal

pub returns : goal.returns
returns c = cut-once
