-- What a call hands out: the chosen piece of its plan, the trials of a search for versions, or what a
-- search for conflicts built.
use Rattle.std.specs.Prelude.{ℕ, ◌≡◌, ◌&&◌, ◌||◌, Bool, List, MatchBool, None, Ok, Result, length, not, false, true}
use Rattle.std.specs.List.{list_any}
use Rattle.hack_base.specs.Names.{Name}
use Rattle.hack_base.specs.Notes.{Note}
use Rattle.hack_culprits.specs.Built.{Made, steps_from}
use Rattle.hack_culprits.specs.declared.fault.CulpritsFault.{CulpritsFault}
use Rattle.hack_hunt.specs.Hunts.{AreHunted, spots_of}
use Rattle.hack_hunt.specs.Searched.{IsSearchPlanOf}
use Rattle.hack_hunt.specs.declared.hunt.Hunted.{Hunted}
use Rattle.hack_load.specs.Contexts.{ContextRecord}
use Rattle.hack_msrv.specs.Searches.{AreSearches, AreUnbroken, IsEnd, handed_in_all}
use Rattle.hack_msrv.specs.Trials.{Trial}
use Rattle.hack_msrv.specs.declared.found.Found.{Found}
use Rattle.hack_plan.specs.Commands.{slots_in}
use Rattle.hack_plan.specs.View.{PlanView}
use Rattle.hack_session.specs.Handouts.{IsDriven}
use Rattle.hack_session.specs.Histories.{Course}
use Rattle.hack_session.specs.declared.step.Handed.{Handed}
use Rattle.hack_words.specs.declared.cli.args.Args.{Args}
use Rattle.hack_report.specs.Conflicts.{has_conflict, is_open}
use Rattle.hack_report.specs.Findings.{is_failing, some_too_low}

-- the arguments ask for a search for conflicts, where they don't ask for a list
abbrev pub is_hunt : Bool → Args → Bool
is_hunt listing args = not listing && args.find_conflicts

-- the arguments ask for a search, where they don't ask for a list
abbrev pub is_search : Bool → Args → Bool
is_search listing args = not listing && (args.find_conflicts || args.find_rust_version)

-- The steps are those of a search for the least version of each package of the plan, which says what
-- was found of each. Where no error was reported (`done`), none was broken off; the call fails where a
-- greatest version did, and warns where a package doesn't keep its own `rust-version`.
pub record IsSearchedOut (done : Bool) (cx : ContextRecord) (plan : PlanView) (handed : List Handed) (fails warns : Bool) : Type 0 where
  pub searches : List (List Trial)
  pub found : List Found
  pub such : AreSearches plan 0 searches found
  pub steps : handed ≡ handed_in_all searches
  pub end : IsEnd plan found
  pub told : done ≡ true → AreUnbroken found × (fails ≡ list_any is_failing found) × (warns ≡ some_too_low cx plan 0 found)

-- The plan began with the chosen packages without runs, and grew by what searches for conflicts built,
-- of each package in each slot, at most so many runs as the arguments allow; just these runs were handed
-- out. Where no error was reported (`done`), all searches came to their end; the call fails where a set
-- did, and warns where not all sets are decided.
pub record IsHuntedOut (done : Bool) (cx : ContextRecord) (rustup : Name) (course : Course) (notes : List Note) (fails warns : Bool) : Type 0 where
  pub ids : List ℕ
  pub start : PlanView
  pub begun : IsSearchPlanOf cx.args.subcommand cx rustup start ids notes
  pub came : Result (List Hunted) CulpritsFault
  pub built : List Made
  pub hunts : AreHunted cx cx.args.most_runs (spots_of ids (slots_in start.call None)) came built start course.plan
  pub steps : course.handed ≡ steps_from (length start.entries) built
  pub told : done ≡ true → (hunted : List Hunted) × (came ≡ Ok hunted)
      × (fails ≡ list_any has_conflict hunted) × (warns ≡ list_any is_open hunted)

-- one history of the chosen piece was handed out; or a search's trials, where the arguments ask for that
abbrev pub IsHandedAsAsked : Bool → Bool → ContextRecord → Course → Bool → Bool → Type 0
IsHandedAsAsked done searching cx course fails warns =
    MatchBool searching (IsSearchedOut done cx course.plan course.handed fails warns) (IsDriven cx.args.partition cx.args.keep_going course × (fails ≡ false))

-- What was handed out comes from a plan that is one of the context's; or, where the arguments ask for a
-- search for conflicts, from one that grew.
abbrev pub IsPlannedAsAsked : (PlanView → List Note → Type 0) → Bool → Bool → ContextRecord → Name → Course → List Note → Bool → Bool → Type 0
IsPlannedAsAsked IsPlan done listing cx rustup course notes fails warns =
    MatchBool (is_hunt listing cx.args) (IsHuntedOut done cx rustup course notes fails warns)
    (IsPlan course.plan notes × IsHandedAsAsked done (is_search listing cx.args) cx course fails warns)
