use Rattle.std.proofs.Common.{length}
use Rattle.hack_journal.proofs.entries.+are_of_call.Given as goal

abbrev pub decreases-are_of_call : goal.decreases-are_of_call
decreases-are_of_call l = length l.entries.now
