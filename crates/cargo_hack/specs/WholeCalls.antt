-- What a call promises of all that it reaches.
use Rattle.std.specs.Prelude.{◌≡◌, ℕ, Bool, List, false, true}
use Rattle.hack_base.specs.Names.{Name}
use Rattle.hack_base.specs.Streams.{stream_of}
use Rattle.hack_base.specs.declared.writes.Sink.{Ghosts as Taking}
use Rattle.hack_files.specs.Files.{KeepsAllBut}
use Rattle.hack_files.specs.View.{files_view}
use Rattle.hack_files.specs.declared.fs.Files.{Ghosts as Filing}
use Rattle.hack_process.specs.declared.caller.Caller.{Ghosts as Calling}
use Rattle.hack_term.specs.declared.term.Term.{Term}
use Rattle.hack_words.specs.declared.cli.env.Env.{Env}
use Rattle.hack_run.specs.CallChanges.{IsChangeTrace}
use Rattle.hack_run.specs.CallTrace.{IsCallTrace}
use Rattle.hack_run.specs.LastingEdits.{LeavesAtMostEdits}
use Rattle.hack_run.specs.Refusals.{AreRefused, ReportsRefusal, WritesError}
use Rattle.hack_run.specs.Shown.{SaysCall, looks_of, scene_at}
use Rattle.hack_run.specs.Standing.{Between, EditsStand}
use Rattle.hack_run.specs.TemporaryEdits.{BringsBack, IsClean, RestoresEdits}
use Rattle.hack_run.specs.Worlds.{IsStatus, World, host_of}

-- what a call reaches, before or after it, and whether a search found what fails
pub record Reached (F C O E : Type 0) : Type 0 where
  pub files : F
  pub caller : C
  pub out : O
  pub err : E
  pub term : Term
  pub fails : Bool

module _ {F C O E : Type 0} (f : Filing F) (c : Calling C) (o : Taking O) (e : Taking E) where
  abbrev pub world_reached : Reached F C O E → World
  world_reached r = record { files = files_view f r.files; host = host_of c o r.caller r.out r.term r.fails }

  -- each clause of the `run` of `hack_run`, over what the call reaches, but for those on lanes and on the host itself
  pub record IsWholeCall (words : List Name) (env : Env) (old new : Reached F C O E) (status : ℕ) : Type 0 where
    pub ends : IsStatus env.deny_warnings (world_reached new).host status
    pub stays : f.stays old.files new.files
    pub refused : AreRefused env words → ReportsRefusal c.tells env (world_reached old).host (world_reached new).host
    pub told : AreRefused env words → WritesError old.term.coloring (stream_of e old.err) (stream_of e new.err)
    pub done : new.term.error ≡ false → c.tells → IsCallTrace true f.tells words env (world_reached old) (world_reached new)
    pub traced : new.term.error ≡ false → c.tells → f.whole → IsChangeTrace f.tells words env (world_reached old) (world_reached new)
    pub stood : new.term.error ≡ false → EditsStand (Between f old.files new.files) f.tells c.tells words env (f.bytes_at old.files) (c.calls old.caller)
    pub made : c.tells → IsCallTrace false f.tells words env (world_reached old) (world_reached new)
    pub back : RestoresEdits env words → f.tells → BringsBack (files_view f old.files) (files_view f new.files)
    pub spoilt : RestoresEdits env words → KeepsAllBut (f.refuses old.files new.files) f.tells (f.bytes_at old.files) (f.bytes_at new.files)
    pub lasting : LeavesAtMostEdits (f.refuses old.files new.files) f.tells c.tells words env (c.calls old.caller) (f.bytes_at old.files) (f.bytes_at new.files)
    pub clean : new.term.error ≡ false → IsClean (RestoresEdits env words) f.tells (files_view f old.files) (files_view f new.files)
    pub shown : c.tells → SaysCall f old.files new.files c.tells words env (looks_of old.term) (looks_of new.term)
        (scene_at (c.calls old.caller) o e old.out old.err) (scene_at (c.calls new.caller) o e new.out new.err)
