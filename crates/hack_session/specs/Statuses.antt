-- The lines that are printed while steps are performed.
use Rattle.std.specs.Prelude.{ℕ, ◌+◌, Bool, true, false, List, [], ◌++◌, codes, length, Option, Some, None, if◌then◌else◌}
use Rattle.std.specs.Fmt.{decimal}
use Rattle.hack_process.specs.CommandTexts.{text_of}
use Rattle.hack_plan.specs.declared.places.PlanEntry.{PlanEntry}
use Rattle.hack_plan.specs.View.{PlanView}
use Rattle.hack_plan.specs.Commands.{command_of_entry, name_in, chosen_package_at}

-- the line on a command that is run outside the plan's places
abbrev pub running_text : List ℕ → List ℕ
running_text command = codes "running " ++ command

-- the package that a command is run on, where it is shown
abbrev pub on_text : Option (List ℕ) → List ℕ
on_text None = []
on_text (Some name) = codes " on " ++ name

-- the number of all places, where it is shown
abbrev pub of_text : Option ℕ → List ℕ
of_text None = []
of_text (Some total) = codes "/" ++ decimal total

-- a place's status: what is done there, its command, its package, and its number, of all where those are shown
abbrev pub status_text : List ℕ → List ℕ → Option (List ℕ) → ℕ → Option ℕ → List ℕ
status_text verb command name number total =
    verb ++ (codes " " ++ (command ++ (on_text name ++ (codes " (" ++ (decimal number ++ (of_text total ++ codes ")"))))))

-- the package's name is shown, unless commands are shown in full
abbrev pub told_name : Bool → Option (List ℕ) → Option (List ℕ)
told_name true name = None
told_name false name = name

-- the number of all places is the plan's length, and isn't shown where places are added while the plan is run
abbrev pub shown_total : PlanView → Option ℕ
shown_total plan = if plan.call.grows then None else Some (length plan.entries)

-- the status of a run at a place: its number is the place from 1
abbrev pub place_status : List ℕ → Bool → PlanView → ℕ → PlanEntry → List ℕ
place_status verb verbose plan place q =
    status_text verb (text_of verbose plan.call.dir (command_of_entry plan q)) (told_name verbose (name_in (chosen_package_at plan.packages q.package))) (place + 1) (shown_total plan)
