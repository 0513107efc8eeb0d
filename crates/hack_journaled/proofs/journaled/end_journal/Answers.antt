use Rattle.std.proofs.Common.{inr}
use Rattle.hack_journaled.proofs.journaled.end_journal.Goals as goal

pub returns-in-Err-clause-ended : goal.returns-in-Err-clause-ended
returns-in-Err-clause-ended g c = λ tells back. inr c.in-Err.ensures.why
