-- What a whole call starts side by side, and over which files.
use Rattle.std.specs.Prelude.{◌≡◌, ◌⊎◌, Bool, List, Ok, Option, false, not}
use Rattle.hack_base.specs.Names.{Name, names_of}
use Rattle.hack_files.specs.declared.fs.Files.{Ghosts as Filing}
use Rattle.hack_journaled.specs.Journals.{contents_seen}
use Rattle.hack_files.specs.View.{FilesView, files_view}
use Rattle.hack_places.specs.CallPlaces.{PlacesAt}
use Rattle.hack_process.specs.Calls.{Call}
use Rattle.hack_process.specs.declared.caller.Caller.{Ghosts as Calling}
use Rattle.hack_run.specs.Lanes.{IsLaneCall}
use Rattle.hack_run.specs.declared.host.Host.{Host}
use Rattle.hack_recovery.specs.Started.{GivesStart}
use Rattle.hack_recovery.specs.SystemView.{SystemView}
use Rattle.hack_recovery.specs.declared.started.Started.{Started}
use Rattle.hack_starts.specs.Events.{Event}
use Rattle.hack_words.specs.declared.cli.env.Env.{Env}
use Rattle.hack_recovery.specs.AskedEdits.{AsksForEdits}
use Rattle.hack_recovery.specs.CallCourses.{Begins}
use Rattle.hack_recovery.specs.Ready.{Both, GetReady}
use Rattle.hack_words.specs.declared.cli.edits.Edits.{Edits}
use Rattle.hack_words.specs.declared.cli.edits.Edits.TheVariants as edits

-- the places are those that a call with these words finds, over what the files hold at first
abbrev pub AreItsPlaces : Type 0 → Type 0 → (Name → Name) → List Name → Env → FilesView → PlacesAt → Type 0
AreItsPlaces tells records real words env files places = (does : Edits) × (left : Bool) × Begins tells records real words env does places left files

-- the command line asks for nothing but to restore what an interrupted call left
abbrev pub AsksToRestore : Env → List Name → Type 0
AsksToRestore env words = (path : Option Name) × AsksForEdits env words edits.Restore path

-- `did`, `course`, `talks` and `calls` are the caller's, as in what `run` promises of lanes
module _ {F L S : Type 0} (f : Filing F) (l : Filing L) (did : List Event → S → S → Type 0) (course : S → S → Type 0) (talks : Type 0) (calls : S → List Call) where
  -- The call was performed by the rules of lanes, over what files held once they were ready, or over what
  -- it sees of them with a journal: all of it, where no error was reported (`done`), and in any case nothing
  -- else was started, and nothing is left. Or it wasn't performed, since an error was reported or it is to
  -- restore, and nothing was started. `Own` says which places are the call's.
  pub data CallsInLanes (restores : Type 0) (Own : PlacesAt → Type 0) (done : Bool) (words : List Name) (env : Env) (files : Both) (old new : S) : Type 0 where
    unperformed : (done ≡ false) ⊎ restores → new ≡ old → CallsInLanes restores Own done words env files old new
    plain : (at : Both) → GetReady f l env Own files at → IsLaneCall did course talks calls done f.tells words env at.0.held old new → CallsInLanes restores Own done words env files old new
    over_journal : (at : Both) (places : PlacesAt) → Own places → GetReady f l env Own files at
        → IsLaneCall did course talks calls done (f.tells × l.tells) words env (contents_seen places.journal at.0.held at.1.held) old new → CallsInLanes restores Own done words env files old new

  -- arguments and environment were read, and the call with these went so; or they weren't, and nothing was
  -- started
  pub data ProgramCallsInLanes (informs records : Type 0) (real : Name → Name) (system : SystemView) (done : Bool) (files : Both) (old new : S) : Type 0 where
    read : (started : Started) → GivesStart informs system (Ok started)
        → CallsInLanes (AsksToRestore started.env (names_of started.words.items)) (AreItsPlaces f.tells records real (names_of started.words.items) started.env files.0)
        done (names_of started.words.items) started.env files old new
        → ProgramCallsInLanes informs records real system done files old new
    unread : done ≡ false → new ≡ old → ProgramCallsInLanes informs records real system done files old new

-- the same of a host over such files, with what it asks for
abbrev pub HostInLanes : {F L C O E : Type 0} → Filing F → Filing L → (List Event → C → C → Type 0) → Calling C → Type 0 → (PlacesAt → Type 0) → List Name → F → L → Host C O E → Host C O E → Type 0
HostInLanes f l did c restores Own words files lockfiles old new =
    CallsInLanes f l did c.course c.tells c.calls restores Own (not new.term.now.error) words old.env.now (files_view f files, files_view l lockfiles) old.caller.now new.caller.now
