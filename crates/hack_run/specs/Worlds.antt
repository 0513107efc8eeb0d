-- What a call reaches, as plain data.
use Rattle.std.specs.Prelude.{◌≡◌, ◌||◌, ℕ, Bool, List, Option}
use Rattle.hack_base.specs.declared.writes.Sink.{Ghosts as Taking}
use Rattle.hack_files.specs.View.{FilesView, files_view}
use Rattle.hack_files.specs.declared.fs.Files.{Ghosts as Filing}
use Rattle.hack_process.specs.Calls.{Call}
use Rattle.hack_process.specs.declared.caller.Caller.{Ghosts as Calling}
use Rattle.hack_term.specs.Lines.{IsExitStatus}
use Rattle.hack_term.specs.declared.term.Term.{Term}
use Rattle.hack_run.specs.declared.host.Host.{Host}

-- a host: the programs called so far, what was printed, where that is known, the terminal, and whether
-- a search found what fails
pub record HostView : Type 0 where
  pub calls : List Call
  pub out : Option (List ℕ)
  pub term : Term
  pub fails : Bool

-- all that a call sees and changes
pub record World : Type 0 where
  pub files : FilesView
  pub host : HostView

abbrev pub host_view : {C O E : Type 0} → Calling C → Taking O → Host C O E → HostView
host_view c o host = record { calls = c.calls host.caller.now; out = o.contents host.out.now; term = host.term.now; fails = host.fails }

-- a host of a caller, an output, a terminal, and whether a search found what fails
abbrev pub host_of : {C O : Type 0} → Calling C → Taking O → C → O → Term → Bool → HostView
host_of c o caller out term fails = record { calls = c.calls caller; out = o.contents out; term = term; fails = fails }

abbrev pub world_of : {F C O E : Type 0} → Filing F → Calling C → Taking O → F → Host C O E → World
world_of f c o files host = record { files = files_view f files; host = host_view c o host }

-- a host, or a world, at which these programs were called so far
abbrev pub host_at : List Call → HostView → HostView
host_at calls host = record host { calls = calls }

abbrev pub world_at : List Call → World → World
world_at calls world = record world { host = host_at calls world.host }

-- the exit status of a call: 1 where an error was reported, a search found what fails, or a warning was
-- reported that is to count as an error; else 0
abbrev pub IsStatus : Bool → HostView → ℕ → Type 0
IsStatus deny_warnings host status = IsExitStatus deny_warnings (record host.term { error = host.fails || host.term.error }) status

-- a host is handed on: each of its references is still the same, and so is its environment
pub record IsSameHost {C O E : Type 0} (old new : Host C O E) : Type 0 where
  pub env : new.env ≡ old.env
  pub term : new.term.ghost_name ≡ old.term.ghost_name
  pub caller : new.caller.ghost_name ≡ old.caller.ghost_name
  pub out : new.out.ghost_name ≡ old.out.ghost_name
  pub err : new.err.ghost_name ≡ old.err.ghost_name
