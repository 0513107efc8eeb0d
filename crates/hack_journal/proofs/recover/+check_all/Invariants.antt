use Rattle.std.proofs.Common.{length}
use Rattle.hack_journal.proofs.recover.+check_all.Given as goal

abbrev pub decreases-check_all : goal.decreases-check_all
decreases-check_all g l = length l.entries.now
