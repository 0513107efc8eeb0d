use Rattle.std.proofs.Common.{length}
use Rattle.hack_journal.proofs.recover.+put_all_back.Given as goal

abbrev pub decreases-put_all_back : goal.decreases-put_all_back
decreases-put_all_back g l = length l.entries.now
