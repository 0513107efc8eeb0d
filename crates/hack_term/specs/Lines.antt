-- The lines that are printed for a user.
use Rattle.std.specs.Prelude.{◌≡◌, ◌≤◌, ◌↔◌, ◌⊎◌, ℕ, Bool, IsTrue, List, [], ◌∷◌, ◌++◌, codes, bytes_eq, true, Option, Some, None, if◌then◌else◌}
use Rattle.hack_base.specs.declared.notice.NoticeKind.{NoticeKind}
use Rattle.hack_base.specs.declared.notice.NoticeKind.TheVariants.{Info, Warn, QuietWarn}
use Rattle.hack_base.specs.Writes.{line}
use Rattle.hack_term.specs.declared.term.Coloring.{Coloring}
use Rattle.hack_term.specs.declared.term.Coloring.TheVariants.{Auto, Always, Never}
use Rattle.hack_term.specs.declared.term.Term.{Term}

-- the name of a colouring
abbrev pub coloring_name : Coloring → List ℕ
coloring_name Auto = codes "auto"
coloring_name Always = codes "always"
coloring_name Never = codes "never"

-- the text isn't the name of a colouring
abbrev pub IsNoColoring : List ℕ → Type 0
IsNoColoring text = (coloring : Coloring) → text ≡ coloring_name coloring → ⊥

-- the colouring that a text names, if it names one
abbrev pub coloring_of : List ℕ → Option Coloring
coloring_of text =
    if bytes_eq text (codes "auto") then Some Auto
    else if bytes_eq text (codes "always") then Some Always
    else if bytes_eq text (codes "never") then Some Never
    else None

-- an escape sequence that sets how text looks: 0 resets, 1 is bold, 31 is red, 33 is yellow
abbrev pub look : List ℕ → List ℕ
look code = 27 ∷ codes "[" ++ code ++ codes "m"

-- the start of a line: a word, a colon and a space; if coloured, it is bold and the word has a
-- colour
abbrev pub label : Coloring → List ℕ → List ℕ → List ℕ
label Auto color word = word ++ codes ": "
label Never color word = word ++ codes ": "
label Always color word = look (codes "0") ++ look (codes "1") ++ color ++ word ++ look (codes "0") ++ look (codes "1") ++ codes ":" ++ look (codes "0") ++ codes " "

-- the start of an info line
abbrev pub info_label : Coloring → List ℕ
info_label coloring = label coloring [] (codes "info")

-- the start of a warning, in yellow
abbrev pub warning_label : Coloring → List ℕ
warning_label coloring = label coloring (look (codes "33")) (codes "warning")

-- the start of an error, in red
abbrev pub error_label : Coloring → List ℕ
error_label coloring = label coloring (look (codes "31")) (codes "error")

-- an info line
abbrev pub info_line : Coloring → List ℕ → List ℕ
info_line coloring text = line (info_label coloring) text

-- the line of a warning
abbrev pub warning_line : Coloring → List ℕ → List ℕ
warning_line coloring text = line (warning_label coloring) text

-- the line of an error
abbrev pub error_line : Coloring → List ℕ → List ℕ
error_line coloring text = line (error_label coloring) text

-- the line of a notice
abbrev pub notice_line : Coloring → NoticeKind → List ℕ → List ℕ
notice_line coloring Info text = info_line coloring text
notice_line coloring Warn text = warning_line coloring text
notice_line coloring QuietWarn text = warning_line coloring text

-- what is recorded after a notice: a warning is, unless it is a quiet one
abbrev pub after_notice : Term → NoticeKind → Term
after_notice term Info = term
after_notice term Warn = record term { warn = true }
after_notice term QuietWarn = term

-- the exit status: 1 where an error was reported, or a warning that is to count as one; else 0
abbrev pub IsExitStatus : Bool → Term → ℕ → Type 0
IsExitStatus deny_warnings term status =
    ((status ≡ 1) ↔ (IsTrue term.error ⊎ (IsTrue term.warn × IsTrue deny_warnings))) × (status ≤ 1)
