-- What is reported of the runs that failed.
use Rattle.std.specs.Prelude.{◌≡◌, ◌⊎◌, ◌&&◌, ◌==◌, ◌∷◌, [], Bool, MatchBool, codes, false, length, not, true}
use Rattle.std.specs.BTreeMap.{IsOrdered}
use Rattle.std.specs.List.{list_any}
use Rattle.std.specs.String.{string_cmp}
use Rattle.hack_base.specs.Streams.{Stream, WritesAll}
use Rattle.hack_load.specs.Contexts.{ContextRecord}
use Rattle.hack_report.specs.Explained.{SaysSuspects}
use Rattle.hack_session.specs.Histories.{Course}
use Rattle.hack_session.specs.Reports.{IsReport, failures_of, report_text}
use Rattle.hack_session.specs.declared.report.KeepGoing.{KeepGoing}
use Rattle.hack_session.specs.declared.step.Handed.{Handed}
use Rattle.hack_session.specs.declared.step.Outcome.{Outcome}
use Rattle.hack_session.specs.declared.step.Outcome.TheVariants.{Failed, Passed}
use Rattle.hack_session.specs.declared.step.Step.{Step}
use Rattle.hack_session.specs.declared.step.Step.TheVariants.{Prepare, Run, Skip}
use Rattle.hack_term.specs.Lines.{error_line}
use Rattle.hack_term.specs.declared.term.Coloring.{Coloring}

-- a step that failed is a preparation
abbrev pub fails_as : Step → Outcome → Bool
fails_as (Prepare preparation) Failed = true
fails_as (Skip place) Failed = false
fails_as (Run place) Failed = false
fails_as step Passed = false

-- what was handed out is a preparation that failed
abbrev pub is_failed_preparation : Handed → Bool
is_failed_preparation handed = fails_as handed.step handed.outcome

-- runs failed that are to be reported, and each preparation passed
abbrev pub are_reported : Course → Bool
are_reported t = not (list_any is_failed_preparation t.handed) && not (length (failures_of t) == 0)

-- an empty line was written, and the report of these runs as an error, with the packages in the order of their names
pub record WritesReport (coloring : Coloring) (t : Course) (old new : Stream) : Type 0 where
  pub report : KeepGoing
  pub of : IsReport (failures_of t) report
  pub sorted : IsOrdered string_cmp report.commands
  pub written : WritesAll (codes "\n" ∷ error_line coloring (report_text report) ∷ []) old new

-- what is said of a session's runs: the report of those that failed, where they are to be reported, and then what only
-- these have; else nothing
abbrev pub SaysReport : Coloring → ContextRecord → Course → Stream → Stream → Type 0
SaysReport coloring cx t old new =
    MatchBool (are_reported t) ((mid : Stream) × WritesReport coloring t old mid × SaysSuspects coloring cx t mid new) (new ≡ old)

-- memory was refused before anything was said, or behind the report
abbrev pub SaysCutReport : Coloring → Course → Stream → Stream → Type 0
SaysCutReport coloring t old new = (new ≡ old) ⊎ ((are_reported t ≡ true) × WritesReport coloring t old new)
