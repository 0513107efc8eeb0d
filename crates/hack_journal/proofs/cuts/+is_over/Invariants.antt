use Rattle.std.proofs.Common.{length}
use Rattle.hack_journal.proofs.cuts.+is_over.Given as goal

abbrev pub decreases-is_over : goal.decreases-is_over
decreases-is_over l = length l.entries.now
