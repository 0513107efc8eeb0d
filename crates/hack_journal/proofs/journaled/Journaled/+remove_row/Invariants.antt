use Rattle.std.proofs.Common.{length}
use Rattle.hack_journal.proofs.journaled.Journaled.+remove_row.Given as goal

abbrev pub decreases-remove_row : goal.decreases-remove_row
decreases-remove_row g l = length l.self.now.notes.entries
