use Rattle.hack_suspects.proofs.FaultLemmas.{faults-found}
use Rattle.hack_suspects.proofs.laws.finds_faults.Goals as goal

pub returns : goal.returns
returns c = faults-found
