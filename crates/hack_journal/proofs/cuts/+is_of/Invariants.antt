use Rattle.std.proofs.Common.{length}
use Rattle.hack_journal.proofs.cuts.+is_of.Given as goal

abbrev pub decreases-is_of : goal.decreases-is_of
decreases-is_of l = length l.entries.now
