-- The lines on what a search found.
use Rattle.std.specs.Prelude.{◌≡◌, ◌++◌, [], ◌∷◌, ℕ, Bool, List, Vec, false, map, string_bytes, true}
use Rattle.hack_report.specs.declared.remarks.Remark.{Remark}
use Rattle.hack_report.specs.declared.remarks.RemarkKind.{RemarkKind}
use Rattle.hack_report.specs.declared.remarks.RemarkKind.TheVariants.{Info, Warning, Error}
use Rattle.hack_term.specs.Lines.{error_line, info_line, warning_line}
use Rattle.hack_term.specs.declared.term.Coloring.{Coloring}

-- how a line begins, and its text
pub record RemarkView : Type 0 where
  pub kind : RemarkKind
  pub text : List ℕ

-- the same without where it lies in memory
abbrev pub remark_of : Remark → RemarkView
remark_of remark = record { kind = remark.kind; text = string_bytes remark.text }

-- one line that begins so
abbrev pub one_remark : RemarkKind → List ℕ → List RemarkView
one_remark kind text = record { kind = kind; text = text } ∷ []

-- a line as it is written
abbrev pub kind_line : Coloring → RemarkKind → List ℕ → List ℕ
kind_line coloring Info text = info_line coloring text
kind_line coloring Warning text = warning_line coloring text
kind_line coloring Error text = error_line coloring text

abbrev pub remark_line : Coloring → RemarkView → List ℕ
remark_line coloring remark = kind_line coloring remark.kind remark.text

abbrev pub remark_lines : Coloring → List RemarkView → List (List ℕ)
remark_lines coloring remarks = map (remark_line coloring) remarks

-- a line is an error's
abbrev pub of_error : RemarkKind → Bool
of_error Info = false
of_error Warning = false
of_error Error = true

abbrev pub is_error_remark : RemarkView → Bool
is_error_remark remark = of_error remark.kind

-- a line is a warning's
abbrev pub of_warning : RemarkKind → Bool
of_warning Info = false
of_warning Warning = true
of_warning Error = false

abbrev pub is_warning_remark : RemarkView → Bool
is_warning_remark remark = of_warning remark.kind

-- these lines were appended to the others
abbrev pub AddsRemarks : {Y Z : Type 0} → Vec Remark Y → Vec Remark Z → List RemarkView → Type 0
AddsRemarks old new more = map remark_of new.items ≡ map remark_of old.items ++ more
