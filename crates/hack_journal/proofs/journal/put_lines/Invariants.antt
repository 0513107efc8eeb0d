use Rattle.std.proofs.Common.{◌≡◌, ◌++◌, drop}
use Rattle.hack_journal.specs.Journal.{lines}
use Rattle.hack_journal.proofs.journal.put_lines.Given as goal

abbrev pub invariant-loop-byte : goal.invariant-loop-byte
invariant-loop-byte l = l.text.items ++ lines (drop l.byte-index l.bytes) ≡ l.fn.text.items ++ lines l.bytes
