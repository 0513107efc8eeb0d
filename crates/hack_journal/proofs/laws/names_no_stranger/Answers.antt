use Rattle.hack_journal.proofs.OnceLemmas.{cut_none_strange}
use Rattle.hack_journal.proofs.laws.names_no_stranger.Goals as goal

pub returns : goal.returns
returns c = cut_none_strange
