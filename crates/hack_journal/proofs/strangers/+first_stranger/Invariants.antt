use Rattle.std.proofs.Common.{length}
use Rattle.hack_journal.proofs.strangers.+first_stranger.Given as goal

abbrev pub decreases-first_stranger : goal.decreases-first_stranger
decreases-first_stranger l = length l.entries.now
