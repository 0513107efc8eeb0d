use Rattle.std.proofs.Common.{length}
use Rattle.hack_places.proofs.journal.+is_plain.Given as goal

abbrev pub decreases-is_plain : goal.decreases-is_plain
decreases-is_plain l = length l.bytes.now
