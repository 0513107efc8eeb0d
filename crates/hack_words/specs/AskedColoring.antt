-- How a command line asks for lines to be coloured, also where a later rule refuses it.
use Rattle.std.specs.Prelude.{ℕ, ◌≡◌, List, Option}
use Rattle.hack_rules.specs.AskedFields.{coloring_asked}
use Rattle.hack_rules.specs.UseReading.{Reading, Met, End, Prints, Fails, ReadsUsesThen}
use Rattle.hack_rules.specs.Uses.{Use}
use Rattle.hack_term.specs.declared.term.Coloring.{Coloring}
use Rattle.hack_term.specs.declared.term.Coloring.TheVariants.{Auto}
use Rattle.hack_words.specs.Start.{Start, Refuses, Cuts, start_of}

-- given how parsing ended: what the uses ask for, and auto where it didn't come to the end
abbrev pub IsColoringAt : Option (List ℕ) → List Use → Reading → Coloring → Type 0
IsColoringAt term_color us End coloring = coloring ≡ coloring_asked term_color us
IsColoringAt term_color us (Prints print) coloring = coloring ≡ Auto
IsColoringAt term_color us (Fails fault) coloring = coloring ≡ Auto
IsColoringAt term_color us (Met one left) coloring = ⊥

-- given the start of the command line
abbrev pub ColorsFrom : Option (List ℕ) → Start → Coloring → Type 0
ColorsFrom term_color (Refuses fault) coloring = coloring ≡ Auto
ColorsFrom term_color (Cuts behavior cut trailing) coloring = (us : List Use) × (end : Reading) × ReadsUsesThen cut us end × IsColoringAt term_color us end coloring

-- the colouring that a command line asks for: that of `--color`, or without it that of the
-- environment; and auto where this names none, or where the command line can't be parsed, or asks for a text
abbrev pub AsksColoring : Option (List ℕ) → List (List ℕ) → Coloring → Type 0
AsksColoring term_color words coloring = ColorsFrom term_color (start_of words) coloring
