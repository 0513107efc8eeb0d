-- How a call of the program goes, from what the system tells of it.
use Rattle.std.specs.Prelude.{◌≡◌, ℕ, Bool, true, Ok, Err}
use Rattle.hack_base.specs.declared.writes.Sink.{Ghosts as Taking}
use Rattle.hack_base.specs.Names.{Name, names_of, optional_text}
use Rattle.hack_base.specs.Streams.{WritesText}
use Rattle.hack_files.specs.declared.fs.Files.{Ghosts as Filing}
use Rattle.hack_journal.specs.declared.unkept.Unkept.{Ghosts as Noting}
use Rattle.hack_process.specs.declared.caller.Caller.{Ghosts as Calling}
use Rattle.hack_run.specs.CallTrace.{colored_by}
use Rattle.hack_files.specs.View.{files_view}
use Rattle.hack_run.specs.Worlds.{IsStatus}
use Rattle.hack_session.specs.StepOutput.{streams}
use Rattle.hack_recovery.specs.Started.{GivesStart, SetsColoring, auto_coloring_of, start_fault_text}
use Rattle.hack_recovery.specs.SystemView.{SystemView}
use Rattle.hack_recovery.specs.declared.started.StartFault.{StartFault}
use Rattle.hack_recovery.specs.declared.started.Started.{Started}
use Rattle.hack_term.specs.Lines.{error_line}
use Rattle.hack_term.specs.declared.term.Coloring.{Coloring}
use Rattle.hack_term.specs.declared.term.Term.{Term}
use Rattle.hack_words.specs.AskedColoring.{AsksColoring}
use Rattle.hack_recovery.specs.CallCourses.{IsCallCourse}
use Rattle.hack_recovery.specs.GuardEvents.{GuardsView}
use Rattle.hack_recovery.specs.LockEvents.{LocksView}
use Rattle.hack_recovery.specs.Scenes.{Scene, scene_with}
use Rattle.hack_recovery.specs.declared.call.Outside.{Outside}

-- what a call sees and changes
abbrev pub scene_outside : {F L U C O E : Type 0} → Filing F → Filing L → Noting U → Calling C → Taking O → Taking E → F → L → U
    → LocksView → GuardsView → Outside C O E → Scene
scene_outside f l u c o e files lockfiles unkept locks guards outside = record {
  files = files_view f files;
  lockfiles = files_view l lockfiles;
  unkept = u.told unkept;
  locks = locks;
  guards = guards;
  host = record {
    calls = c.calls outside.caller.now;
    out = o.contents outside.out.now;
    term = outside.term.now;
    fails = outside.fails;
  };
  streams = streams o e outside.out.now outside.err.now;
}

-- its references are still the same
pub record IsSameOutside {C O E : Type 0} (old new : Outside C O E) : Type 0 where
  pub term : new.term.ghost_name ≡ old.term.ghost_name
  pub caller : new.caller.ghost_name ≡ old.caller.ghost_name
  pub out : new.out.ghost_name ≡ old.out.ghost_name
  pub err : new.err.ghost_name ≡ old.err.ghost_name
  pub is_terminal : new.is_terminal ≡ old.is_terminal

-- a scene whose terminal is this
abbrev pub scene_on : Term → Scene → Scene
scene_on term scene = record scene { host = record scene.host { term = term } }

-- a terminal that colours so
abbrev pub colored : Coloring → Term → Term
colored coloring term = record term { coloring = coloring }

-- Arguments and environment were read, and the call was performed with them, on a terminal that is
-- coloured as they ask, and as it was where they ask for nothing. Or an error says why
-- they could not be read: its line was written to `err`, or a front of it, and a failure counted for
-- that; and nothing else was done.
pub data IsProgramCall {F L U J : Type 0} (f : Filing F) (l : Filing L) (u : Noting U) (j : Filing J) (informs talks records watched : Type 0) (real : Name → Name) (system : SystemView)
    (is_terminal : Bool) (old new : Scene) (status : ℕ) : Type 0 where
  performed : (started : Started) (coloring asked : Coloring) → GivesStart informs system (Ok started)
      → (informs → SetsColoring (auto_coloring_of is_terminal system) old.host.term.coloring coloring (Ok started))
      → AsksColoring (optional_text started.env.term_color) (names_of started.words.items) asked
      → IsStatus started.env.deny_warnings new.host status
      → IsCallCourse f l u j talks records watched real (names_of started.words.items) started.env
      (scene_on (colored (colored_by asked coloring) old.host.term) old) new
      → IsProgramCall f l u j informs talks records watched real system is_terminal old new status
  unread : (fault : StartFault) (coloring : Coloring) → GivesStart informs system (Err fault)
      → (informs → SetsColoring (auto_coloring_of is_terminal system) old.host.term.coloring coloring (Err fault))
      → WritesText (error_line coloring (start_fault_text fault)) old.streams.err new.streams.err
      → new ≡ scene_with old.files (record (colored coloring old.host.term) { error = true }) new.streams.err old → status ≡ 1
      → IsProgramCall f l u j informs talks records watched real system is_terminal old new status
