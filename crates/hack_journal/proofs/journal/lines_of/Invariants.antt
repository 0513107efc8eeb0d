use Rattle.std.proofs.Common.{◌≤◌, length}
use Rattle.hack_journal.proofs.TextLemmas.{SoFar}
use Rattle.hack_journal.proofs.journal.lines_of.Given as goal

abbrev pub invariant-loop-byte : goal.invariant-loop-byte
invariant-loop-byte l = record { shorter : length l.left ≤ length l.text; sofar : SoFar l.text l.bytes.items l.left }

abbrev pub decreases-loop-byte : goal.decreases-loop-byte
decreases-loop-byte l = length l.left
