use Rattle.std.proofs.Common.{length}
use Rattle.hack_journal.proofs.contents.+are_back.Given as goal

abbrev pub decreases-are_back : goal.decreases-are_back
decreases-are_back g l = length l.entries.now
