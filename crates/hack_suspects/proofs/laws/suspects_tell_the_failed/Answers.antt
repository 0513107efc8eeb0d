use Rattle.hack_suspects.proofs.FaultLemmas.{failed-told}
use Rattle.hack_suspects.proofs.laws.suspects_tell_the_failed.Goals as goal

pub returns : goal.returns
returns c = failed-told
