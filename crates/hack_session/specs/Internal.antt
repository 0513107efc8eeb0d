-- What only private functions of the crate promise each other.
use Rattle.std.specs.Prelude.{◌≡◌, ◌⊎◌, ◌∷◌, ◌++◌, [], ℕ, Bool, false, List, Result, Ok, Err, Contains, if◌then◌else◌, string_bytes}
use Rattle.hack_session.specs.declared.step.Handed.{Handed}
use Rattle.hack_session.specs.declared.lines.LineFault.{LineFault}
use Rattle.hack_session.specs.declared.lines.LineFault.TheVariants.{Unwritten, Memory}
use Rattle.hack_base.specs.Counters.{GrowsBy}
use Rattle.hack_session.specs.ListLines.{is_failed, is_sent_step}
use Rattle.hack_session.specs.declared.report.Failure.{Failure}
use Rattle.hack_session.specs.Reports.{FailedRun}
use Rattle.hack_session.specs.declared.suspects.Part.{Part}

-- a step of the list that failed
abbrev pub is_unlisted : Handed → Bool
is_unlisted h = if is_sent_step h.step then false else is_failed h.outcome

-- a step of the list that didn't fail
abbrev pub IsWrittenStep : Handed → Type 0
IsWrittenStep h = is_unlisted h ≡ false

-- only a line that can't be written counts as a failure, and not that memory is refused
abbrev pub CountsLines : {T : Type 0} → ℕ → ℕ → Result T LineFault → Type 0
CountsLines before now (Ok done) = GrowsBy 0 before now
CountsLines before now (Err Unwritten) = GrowsBy 1 before now
CountsLines before now (Err Memory) = GrowsBy 0 before now

-- a failure as plain data
abbrev pub failure_view : Failure → FailedRun
failure_view f = record { name = string_bytes f.name; text = string_bytes f.text }

-- the parts are the old ones, or these and one more that is none of them
abbrev pub AddsOnce : List Part → List Part → Type 0
AddsOnce old new = (new ≡ old) ⊎ ((part : Part) × (new ≡ old ++ part ∷ []) × (Contains old part → ⊥))
