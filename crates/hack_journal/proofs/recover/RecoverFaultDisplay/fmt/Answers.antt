use Rattle.hack_journal.proofs.recover.RecoverFaultDisplay.fmt.Goals as goal

pub returns-in-Changed-clause-writes : goal.returns-in-Changed-clause-writes
returns-in-Changed-clause-writes g c = rw c.in-Changed.is c.write-in-Changed.ensures.writes
