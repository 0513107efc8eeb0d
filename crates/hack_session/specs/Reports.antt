-- The report of the runs that failed.
use Rattle.std.specs.Prelude.{ℕ, ◌≡◌, Bool, true, List, [], ◌++◌, map, filter, length, Option, Some, None, string_bytes, codes, bytes_eq, slice_get, unwrap_or, is_some, if◌then◌else◌}
use Rattle.std.specs.List.{filter_map, flat_map, list_any}
use Rattle.std.specs.Option.{option_map_or}
use Rattle.std.specs.Fmt.{decimal}
use Rattle.std.specs.BTreeMap.{BTreeMap, get_by_text}
use Rattle.std.proofs.Common.{Global, String, Vec}
use Rattle.hack_plan.specs.declared.places.PlanEntry.{PlanEntry}
use Rattle.hack_process.specs.CommandTexts.{text_of}
use Rattle.hack_plan.specs.View.{PlanView}
use Rattle.hack_plan.specs.Commands.{command_of_entry, name_in, chosen_package_at}
use Rattle.hack_session.specs.declared.step.Step.{Step}
use Rattle.hack_session.specs.declared.step.Step.TheVariants.{Prepare, Skip, Run}
use Rattle.hack_session.specs.declared.step.Outcome.{Outcome}
use Rattle.hack_session.specs.declared.step.Outcome.TheVariants.{Passed, Failed}
use Rattle.hack_session.specs.declared.step.Handed.{Handed}
use Rattle.hack_session.specs.declared.report.KeepGoing.{KeepGoing}
use Rattle.hack_session.specs.Histories.{Course}

-- a failed run: the name of its package, empty without one, and the long text of its command
pub record FailedRun : Type 0 where
  pub name : List ℕ
  pub text : List ℕ

-- a run at a place as it is reported where it failed
abbrev pub run_at : PlanView → Option PlanEntry → Option FailedRun
run_at plan None = None
run_at plan (Some q) = Some (record { name = unwrap_or (name_in (chosen_package_at plan.packages q.package)) []; text = text_of true plan.call.dir (command_of_entry plan q) })

-- a step's failed run, where it is one
abbrev pub failed_run : PlanView → Step → Outcome → Option FailedRun
failed_run plan (Run place) Failed = run_at plan (slice_get plan.entries place)
failed_run plan (Prepare preparation) Failed = None
failed_run plan (Skip place) Failed = None
failed_run plan step Passed = None

-- the failed run of what was handed out, where it is one
abbrev pub failure_of : PlanView → Handed → Option FailedRun
failure_of plan h = failed_run plan h.step h.outcome

-- the failed runs of a session, in order, where runs go on after a failed one; else none
abbrev pub failures_of : Course → List FailedRun
failures_of t = if t.keep_going then filter_map (failure_of t.plan) t.handed else []

-- a failed run is one of this package
abbrev pub is_of : List ℕ → FailedRun → Bool
is_of name run = bytes_eq name run.name

-- the text of a failed run
abbrev pub told_text : FailedRun → List ℕ
told_text run = run.text

-- the texts under a name, in order
abbrev pub texts_under : List ℕ → BTreeMap (String Global) (Vec (String Global) Global) → List (List ℕ)
texts_under name m = option_map_or (λ texts. map string_bytes texts.items) (get_by_text m name) []

-- the failed runs are counted, and those of each package's name are under it, in order; no other name is there
pub record IsReport (failures : List FailedRun) (r : KeepGoing) : Type 0 where
  pub count : r.count ≡ length failures
  pub texts : (name : List ℕ) → texts_under name r.commands ≡ map told_text (filter (is_of name) failures)
  pub names : (name : List ℕ) → is_some (get_by_text r.commands name) ≡ list_any (is_of name) failures

-- the line of a command
abbrev pub command_text : String Global → List ℕ
command_text command = codes "        " ++ (string_bytes command ++ codes "\n")

-- the lines of a package: its name, and its commands
abbrev pub package_group_text : String Global × Vec (String Global) Global → List ℕ
package_group_text group = codes "    " ++ (string_bytes group.0 ++ (codes ":\n" ++ flat_map command_text group.1.items))

-- the text of a report: how many runs failed, and the packages in the order of their names, each with its commands
abbrev pub report_text : KeepGoing → List ℕ
report_text r = codes "failed to run " ++ (decimal r.count ++ (codes " commands\n\nfailed commands:\n" ++ flat_map package_group_text r.commands.entries))
