use Rattle.std.proofs.Common.{◌≡◌, ◌++◌, List, length}
use Rattle.hack_journal.specs.Journal.{Edit, HaveTextPaths, edits_text, edits_of}
use Rattle.hack_journal.proofs.journal.entries_of.Given as goal

abbrev pub invariant-loop-left : goal.invariant-loop-left
invariant-loop-left l = (edits : List Edit) → HaveTextPaths edits → l.text ≡ edits_text edits → (more : List Edit) × HaveTextPaths more × (edits ≡ edits_of l.entries.items ++ more) × (l.left ≡ edits_text more)

abbrev pub decreases-loop-left : goal.decreases-loop-left
decreases-loop-left l = length l.left
