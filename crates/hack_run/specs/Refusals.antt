-- Command lines that are refused whatever rustup answers.
use Rattle.std.specs.Prelude.{◌≡◌, ℕ, List, string_bytes, true}
use Rattle.hack_base.specs.Names.{Name}
use Rattle.hack_base.specs.Streams.{Stream, WritesText}
use Rattle.hack_process.specs.Calls.{MayAdd}
use Rattle.hack_rules.specs.CliFaults.{Fault}
use Rattle.hack_term.specs.Lines.{error_line}
use Rattle.hack_term.specs.declared.term.Coloring.{Coloring}
use Rattle.hack_versions.specs.declared.rustup.Rustup.{Rustup}
use Rattle.hack_words.specs.ParseAnswers.{around_of}
use Rattle.hack_words.specs.CommandLine.{ComesTo, Faulty}
use Rattle.hack_words.specs.declared.cli.env.Env.{Env}
use Rattle.hack_run.specs.Questions.{rustup_asked}
use Rattle.hack_run.specs.Worlds.{HostView}

-- the command line is refused, whatever rustup answers
abbrev pub AreRefused : Env → List Name → Type 0
AreRefused env words = (rustup : Rustup) → (told : Fault) × ComesTo (around_of env rustup) words (Faulty told)

-- an error was reported, and nothing was called, or just rustup for its version
abbrev pub ReportsRefusal : Type 0 → Env → HostView → HostView → Type 0
ReportsRefusal talks env old new = (new.term.error ≡ true) × (talks → MayAdd (rustup_asked (string_bytes env.rustup)) old.calls new.calls)

-- the line of an error was written, and nothing else; it is coloured so
abbrev pub WritesError : Coloring → Stream → Stream → Type 0
WritesError coloring old new = (text : List ℕ) × WritesText (error_line coloring text) old new
