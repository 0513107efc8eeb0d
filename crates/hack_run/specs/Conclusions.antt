-- What searches come to, and what they say of it.
use Rattle.std.specs.Prelude.{◌≡◌, ◌⊎◌, ◌++◌, ◌∷◌, [], Bool, Err, List, MatchBool, None, Ok, Option, Result, codes, false, true, ℕ, if◌then◌else◌}
use Rattle.std.specs.List.{list_any}
use Rattle.hack_base.specs.Names.{Name}
use Rattle.hack_base.specs.Notes.{Note}
use Rattle.hack_base.specs.Streams.{Stream, WritesAll}
use Rattle.hack_culprits.specs.declared.fault.CulpritsFault.{CulpritsFault}
use Rattle.hack_culprits.specs.declared.fault.CulpritsFault.TheVariants as cause
use Rattle.hack_hunt.specs.declared.hunt.Hunted.{Hunted}
use Rattle.hack_load.specs.Contexts.{ContextRecord}
use Rattle.hack_msrv.specs.Trials.{failed_step}
use Rattle.hack_msrv.specs.declared.found.Found.{Found}
use Rattle.hack_msrv.specs.declared.found.Found.TheVariants.{Untried, Least, Nowhere, Broken}
use Rattle.hack_plan.specs.View.{PlanView}
use Rattle.hack_process.specs.declared.fault.ProcessFault.{ProcessFault}
use Rattle.hack_report.specs.Conflicts.{hunted_remarks}
use Rattle.hack_report.specs.Findings.{found_remarks}
use Rattle.hack_report.specs.Remarks.{RemarkView, remark_lines}
use Rattle.hack_session.specs.Histories.{Course}
use Rattle.hack_session.specs.Schedules.{is_place}
use Rattle.hack_session.specs.declared.step.Handed.{Handed}
use Rattle.hack_session.specs.declared.step.Step.{Step}
use Rattle.hack_term.specs.Lines.{error_line}
use Rattle.hack_term.specs.declared.term.Coloring.{Coloring}
use Rattle.hack_run.specs.Handed.{IsHuntedOut, IsSearchedOut, is_hunt}

-- what a search comes to: it was broken off, with these lines to say of what was found before, or with none; or it was
-- cut short for this reason, or has these lines to say
pub data Conclusion : Type 0 where
  broken_off : Conclusion
  broken_after : List RemarkView → Conclusion
  cut_short : List ℕ → Conclusion
  finds : List RemarkView → Conclusion

-- the search was broken off
abbrev pub IsBrokenOff : Conclusion → Type 0
IsBrokenOff broken_off = Unit {0}
IsBrokenOff (broken_after remarks) = Unit {0}
IsBrokenOff (cut_short why) = ⊥
IsBrokenOff (finds remarks) = ⊥

-- the search for a package's least version was broken off
abbrev pub is_broken : Found → Bool
is_broken Broken = true
is_broken Untried = false
is_broken (Least version failed) = false
is_broken (Nowhere version failed) = false

-- what searches for the least versions come to, which found these
abbrev pub version_conclusion : ContextRecord → PlanView → List Found → Conclusion
version_conclusion cx plan found = (if list_any is_broken found then broken_after else finds) (found_remarks cx plan 0 found)

-- why a search for conflicts was cut short, where no run has said so
abbrev pub reason_text : CulpritsFault → List ℕ
reason_text cause.TooManyRuns = codes "too many runs"
reason_text why = codes "out of memory"

-- what those for conflicts come to
abbrev pub hunt_conclusion : Bool → PlanView → Result (List Hunted) CulpritsFault → Conclusion
hunt_conclusion verbose plan (Ok found) = finds (hunted_remarks verbose plan found)
hunt_conclusion verbose plan (Err cause.Ended) = broken_off
hunt_conclusion verbose plan (Err why) = cut_short (reason_text why)

-- the last of these steps failed, and it is no run, or the call is at its end with it
abbrev pub AreBrokenOff : List Handed → Bool → Type 0
AreBrokenOff handed ended =
    (before : List Handed) × (step : Step) × (handed ≡ before ++ failed_step step ∷ []) × ((is_place step ≡ false) ⊎ (ended ≡ true))

-- What the searches that the arguments ask for come to, whose steps were handed out in this course; `ended` is whether the
-- call is at its end with the last one: then they were broken off.
abbrev pub ConcludesSo : ContextRecord → Name → Course → List Note → Bool → Bool → Bool → Conclusion → Type 0
ConcludesSo cx rustup course notes fails warns ended conclusion =
    MatchBool (is_hunt false cx.args)
    ((hunt : IsHuntedOut false cx rustup course notes fails warns) × (conclusion ≡ hunt_conclusion cx.args.verbose course.plan hunt.came))
    ((search : IsSearchedOut false cx course.plan course.handed fails warns) × (conclusion ≡ version_conclusion cx course.plan search.found))
    × (IsBrokenOff conclusion → AreBrokenOff course.handed ended) × (ended ≡ true → IsBrokenOff conclusion)

-- these lines were written, and nothing else reported; or that memory was refused for them
abbrev pub SaysLines : List RemarkView → Coloring → Bool → Bool → Stream → Stream → Type 0
SaysLines remarks coloring told reported old new = ((reported ≡ told) × WritesAll (remark_lines coloring remarks) old new)
    ⊎ ((reported ≡ true) × WritesAll (error_line coloring (codes "out of memory") ∷ []) old new)

-- What is said of a conclusion, whether an error was reported then, and which is left to tell, where a step's was `was`:
-- that one where the search was broken off, and its lines, if it has any, are said; else none, and why it was cut short,
-- or its lines.
abbrev pub SaysConclusion : Conclusion → Coloring → Option ProcessFault → Bool → Option ProcessFault → Bool → Stream → Stream → Type 0
SaysConclusion broken_off coloring was told left reported old new = (left ≡ was) × (reported ≡ told) × (new ≡ old)
SaysConclusion (broken_after remarks) coloring was told left reported old new = (left ≡ was) × SaysLines remarks coloring told reported old new
SaysConclusion (cut_short why) coloring was told left reported old new = (left ≡ None) × (reported ≡ true) × WritesAll (error_line coloring why ∷ []) old new
SaysConclusion (finds remarks) coloring was told left reported old new = (left ≡ None) × SaysLines remarks coloring told reported old new

-- the same; where memory was refused for a step, which is reported then, nothing is said, and none is left
abbrev pub SaysSearch : Bool → Conclusion → Coloring → Option ProcessFault → Bool → Option ProcessFault → Bool → Stream → Stream → Type 0
SaysSearch starved conclusion coloring was told left reported old new =
    MatchBool starved ((left ≡ None) × (reported ≡ true) × (new ≡ old)) (SaysConclusion conclusion coloring was told left reported old new)
