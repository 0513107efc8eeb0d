-- A scanner's state after the bytes of a text: how many brackets are open, and whether it is in a
-- comment or a string.
use Rattle.std.specs.Prelude.{ℕ, ◌+◌, ◌-◌, ◌==◌, ◌&&◌, ◌||◌, nat_lt, Bool, true, false, if◌then◌else◌}
use Rattle.hack_manifest.specs.declared.places.ScanState.{ScanState}
use Rattle.hack_manifest.specs.declared.places.ScanState.TheVariants.{Start, Remark, Plain, Comment, Opened, Text, Escaped, Lost}

-- the state after an opening bracket
abbrev pub deeper : ℕ → ScanState
deeper depth = if nat_lt depth 1000 then Plain (depth + 1) else Lost

-- the state after a byte that is in no comment and no string
abbrev pub plain_step : ℕ → ℕ → ScanState
plain_step depth c =
    if c == 34 || c == 39 then Opened c depth
    else if c == 35 then Comment depth
    else if c == 91 || c == 123 then deeper depth
    else if c == 93 || c == 125 then Plain (depth - 1)
    else Plain depth

-- the state after a byte that only blank lines and comments precede
abbrev pub start_step : ℕ → ScanState
start_step c =
    if c == 35 then Remark
    else if (c == 10 || c == 13) || (c == 32 || c == 9) then Start
    else plain_step 0 c

-- the state after a byte of a comment that only these precede
abbrev pub remark_step : ℕ → ScanState
remark_step c = if c == 10 || c == 13 then Start else Remark

-- the state after a byte of a comment
abbrev pub comment_step : ℕ → ℕ → ScanState
comment_step depth c = if c == 10 || c == 13 then Plain depth else Comment depth

-- the state after a byte of a string other than its closing quote
abbrev pub text_step : ℕ → ℕ → ℕ → ScanState
text_step quote depth c = if c == 92 && quote == 34 then Escaped quote depth else Text quote depth

-- the state after one more byte
abbrev pub step : ScanState → ℕ → ScanState
step Start c = start_step c
step Remark c = remark_step c
step (Plain depth) c = plain_step depth c
step (Comment depth) c = comment_step depth c
step (Opened quote depth) c = if c == quote then Lost else text_step quote depth c
step (Text quote depth) c = if c == quote then Plain depth else text_step quote depth c
step (Escaped quote depth) c = Text quote depth
step Lost c = Lost

-- a document may end in this state
abbrev pub may_stand : ScanState → Bool
may_stand (Plain depth) = depth == 0
may_stand (Comment depth) = depth == 0
may_stand Lost = true
may_stand _ = false
