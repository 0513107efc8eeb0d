use Rattle.hack_manifest.proofs.OnceLemmas.{joined-cut}
use Rattle.hack_manifest.proofs.laws.pieces_join.Goals as goal

pub returns : goal.returns
returns c = joined-cut
