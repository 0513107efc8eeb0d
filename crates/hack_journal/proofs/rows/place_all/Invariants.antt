use Rattle.std.proofs.Common.{◌≡◌, ◌++◌}
use Rattle.hack_journal.specs.Journal.{edits_of}
use Rattle.hack_journal.specs.Rows.{placed}
use Rattle.hack_journal.proofs.rows.place_all.Given as goal

-- what was added, and then what is left to add
abbrev pub invariant-loop-entry : goal.invariant-loop-entry
invariant-loop-entry l = edits_of l.entries.items ++ placed l.folder (edits_of l.entry-iterator.rest.items) ≡ edits_of l.fn.entries.items ++ placed l.folder (edits_of l.fn.raw.items)
