use Rattle.std.proofs.Common.{length}
use Rattle.hack_journal.proofs.entries.+tells.Given as goal

abbrev pub decreases-tells : goal.decreases-tells
decreases-tells l = length l.entries.now
