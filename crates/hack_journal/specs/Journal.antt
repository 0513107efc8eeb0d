-- The text of a journal.
use Rattle.std.specs.Prelude.{◌≡◌, ◌++◌, [], ◌∷◌, ℕ, List, Option, Some, None, Result, Ok, Err, cond, codes, map, nat_eq, string_bytes}
use Rattle.std.specs.Str.{IsUtf8}
use Rattle.std.specs.Option.{option_map}
use Rattle.hack_journal.specs.declared.journal.Entry.{Entry}
use Rattle.hack_journal.specs.declared.journal.JournalFault.{JournalFault}
use Rattle.hack_journal.specs.declared.journal.JournalFault.TheVariants.{Memory, NotJournal}

-- an edited path: what it held before its first edit, and what an edit writes there; None is an
-- absent file
pub record Edit : Type 0 where
  pub path : List ℕ
  pub held : Option (List ℕ)
  pub wrote : Option (List ℕ)

-- an entry as plain data
abbrev pub edit_of : Entry → Edit
edit_of e = record { path = string_bytes e.path; held = option_map (λ bytes. bytes.items) e.held; wrote = option_map (λ bytes. bytes.items) e.wrote }

-- entries as plain data
abbrev pub edits_of : List Entry → List Edit
edits_of = map edit_of

-- each path is text
abbrev pub HaveTextPaths : List Edit → Type 0
HaveTextPaths [] = Unit {0}
HaveTextPaths (e ∷ es) = IsUtf8 e.path × HaveTextPaths es

-- the lines of bytes, each but the first after a space, and a line feed that ends them
abbrev pub lines : List ℕ → List ℕ
lines [] = 10 ∷ []
lines (b ∷ bs) = cond (nat_eq b 10) (10 ∷ 32 ∷ lines bs) (b ∷ lines bs)

-- what a file held or is to hold
abbrev pub content_text : Option (List ℕ) → List ℕ
content_text None = codes " nothing\n"
content_text (Some bytes) = codes "\n " ++ lines bytes

-- the text of an edit
abbrev pub edit_text : Edit → List ℕ
edit_text e = codes "path " ++ lines e.path ++ codes "held" ++ content_text e.held ++ codes "wrote" ++ content_text e.wrote

-- the text of edits, in order, and the journal's last line
abbrev pub edits_text : List Edit → List ℕ
edits_text [] = codes "end\n"
edits_text (e ∷ es) = edit_text e ++ edits_text es

-- the text of a journal
abbrev pub journal_text : List Edit → List ℕ
journal_text es = codes "edited files\n" ++ edits_text es

-- memory was refused
abbrev pub IsMemory : JournalFault → Type 0
IsMemory Memory = Unit {0}
IsMemory NotJournal = ⊥

-- what was read is this value, unless memory was refused
abbrev pub ReadsValue : {X Y : Type 0} → (X → Y) → Result X JournalFault → Y → Type 0
ReadsValue seen (Ok x) y = seen x ≡ y
ReadsValue seen (Err e) y = IsMemory e
