-- What a call sees and changes.
use Rattle.std.specs.Prelude.{◌≡◌, ◌⊎◌, ℕ, true}
use Rattle.hack_base.specs.Counters.{GrowsBy}
use Rattle.hack_base.specs.Streams.{Stream, WritesText}
use Rattle.hack_base.specs.declared.writes.Sink.{Ghosts as Taking}
use Rattle.hack_files.specs.declared.fs.Files.{Ghosts as Filing}
use Rattle.hack_journal.specs.declared.unkept.Unkept.{Ghosts as Noting}
use Rattle.hack_process.specs.declared.caller.Caller.{Ghosts as Calling}
use Rattle.hack_files.specs.View.{FilesView, files_view}
use Rattle.hack_run.specs.Worlds.{HostView, World, host_view}
use Rattle.hack_run.specs.declared.host.Host.{Host}
use Rattle.hack_session.specs.StepEffects.{Scene as Said}
use Rattle.hack_session.specs.StepOutput.{Streams, streams}
use Rattle.hack_term.specs.Lines.{error_line}
use Rattle.hack_term.specs.declared.term.Term.{Term}
use Rattle.hack_places.specs.FileLooks.{Unchanged}
use Rattle.hack_recovery.specs.GuardEvents.{GuardsView}
use Rattle.hack_recovery.specs.LockEvents.{LocksView}
use Rattle.hack_recovery.specs.Texts.{text_of_fault}
use Rattle.hack_recovery.specs.declared.fault.CallFault.{CallFault}

-- the files, the lockfiles, how often a journal told what it refuses on its own, the locks, the guards,
-- the host, and its two streams
pub record Scene : Type 0 where
  pub files : FilesView
  pub lockfiles : FilesView
  pub unkept : ℕ
  pub locks : LocksView
  pub guards : GuardsView
  pub host : HostView
  pub streams : Streams

abbrev pub scene_by : FilesView → FilesView → ℕ → LocksView → GuardsView → HostView → Streams → Scene
scene_by files lockfiles unkept locks guards host streams =
    record { files = files; lockfiles = lockfiles; unkept = unkept; locks = locks; guards = guards; host = host; streams = streams }

-- that of a host, beside all else
abbrev pub scene_beside : {C O E : Type 0} → Calling C → Taking O → Taking E → FilesView → FilesView → ℕ → LocksView → GuardsView → Host C O E → Scene
scene_beside c o e files lockfiles unkept locks guards host =
    scene_by files lockfiles unkept locks guards (host_view c o host) (streams o e host.out.now host.err.now)

abbrev pub scene_of : {F L U C O E : Type 0} → Filing F → Filing L → Noting U → Calling C → Taking O → Taking E → F → L → U
    → LocksView → GuardsView → Host C O E → Scene
scene_of f l u c o e files lockfiles unkept locks guards host =
    scene_beside c o e (files_view f files) (files_view l lockfiles) (u.told unkept) locks guards host

-- what `run` sees of it
abbrev pub world_in : Scene → World
world_in scene = record { files = scene.files; host = scene.host }

-- what was called and said in it
abbrev pub said_in : Scene → Said
said_in scene = record { calls = scene.host.calls; streams = scene.streams }

-- a scene in which the files are these, and what was reported and said is this
abbrev pub scene_with : FilesView → Term → Stream → Scene → Scene
scene_with files term err scene =
    record scene { files = files; host = record scene.host { term = term }; streams = record scene.streams { err = err } }

-- one call of these files failed, or none
abbrev pub OneMayFail : ℕ → ℕ → Type 0
OneMayFail old new = GrowsBy 0 old new ⊎ GrowsBy 1 old new

-- nothing was called, printed or searched, no journal refused anything on its own, and no lock or guard
-- came or went
pub record IsQuiet (old new : Scene) : Type 0 where
  pub calls : new.host.calls ≡ old.host.calls
  pub out : new.host.out ≡ old.host.out
  pub stdout : new.streams.out ≡ old.streams.out
  pub fails : new.host.fails ≡ old.host.fails
  pub unkept : new.unkept ≡ old.unkept
  pub locks : new.locks ≡ old.locks
  pub guards : new.guards ≡ old.guards

-- files were looked at, and a lock may have been taken: nothing was changed, called, printed or searched
pub record Untouched (tells whole : Type 0) (old new : Scene) : Type 0 where
  pub files : Unchanged tells whole old.files new.files
  pub lockfiles : new.lockfiles ≡ old.lockfiles
  pub unkept : new.unkept ≡ old.unkept
  pub guards : new.guards ≡ old.guards
  pub calls : new.host.calls ≡ old.host.calls
  pub out : new.host.out ≡ old.host.out
  pub stdout : new.streams.out ≡ old.streams.out
  pub fails : new.host.fails ≡ old.host.fails

-- why a call isn't performed was reported
abbrev pub IsToldWhy : CallFault → Scene → Scene → Type 0
IsToldWhy fault old new = (new.host.term ≡ record old.host.term { error = true })
    × WritesText (error_line old.host.term.coloring (text_of_fault fault)) old.streams.err new.streams.err

-- that was reported, and nothing else was done
abbrev pub Refuses : CallFault → Scene → Scene → Type 0
Refuses fault old new = IsToldWhy fault old new × (new ≡ scene_with old.files new.host.term new.streams.err old)
