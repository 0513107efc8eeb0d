use Rattle.std.proofs.Common.{length}
use Rattle.hack_journal.proofs.entries.+first.Given as goal

abbrev pub decreases-first : goal.decreases-first
decreases-first l = length l.entries.now
