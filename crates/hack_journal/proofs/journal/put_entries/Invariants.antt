use Rattle.std.proofs.Common.{◌≡◌, ◌++◌, drop}
use Rattle.hack_journal.specs.Journal.{edits_text, edits_of}
use Rattle.hack_journal.proofs.journal.put_entries.Given as goal

abbrev pub invariant-loop-entry : goal.invariant-loop-entry
invariant-loop-entry l = l.text.items ++ edits_text (edits_of (drop l.entry-index l.entries)) ≡ l.fn.text.items ++ edits_text (edits_of l.entries)
