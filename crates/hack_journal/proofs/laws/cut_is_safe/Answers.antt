use Rattle.hack_journal.proofs.SafeCutLemmas.{cut_between}
use Rattle.hack_journal.proofs.laws.cut_is_safe.Goals as goal

pub returns : goal.returns
returns c = cut_between
