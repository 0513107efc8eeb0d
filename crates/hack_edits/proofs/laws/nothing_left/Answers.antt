use Rattle.hack_edits.proofs.AgainLemmas.{again}
use Rattle.hack_edits.proofs.laws.nothing_left.Goals as goal

pub returns : goal.returns
returns c = again
