-- Calls whose edits don't stay.
use Rattle.std.specs.Prelude.{◌≡◌, false, List}
use Rattle.hack_base.specs.Names.{Name}
use Rattle.hack_files.specs.Files.{KeepsAll}
use Rattle.hack_base.specs.Counters.{GrowsBy}
use Rattle.hack_base.specs.Notes.{Note}
use Rattle.hack_load.specs.FilesAfterLoading.{LeavesFew}
use Rattle.hack_versions.specs.declared.rustup.Rustup.{Rustup}
use Rattle.hack_words.specs.ParseAnswers.{AnswersCommandLine as IsAnswer, around_of}
use Rattle.hack_words.specs.CommandLine.{ComesTo}
use Rattle.hack_words.specs.declared.cli.env.Env.{Env}
use Rattle.hack_words.specs.declared.cli.parse.Parsed.{Parsed}
use Rattle.hack_words.specs.declared.cli.parse.Parsed.TheVariants as parsed
use Rattle.hack_files.specs.View.{FilesView}

-- what the command line asks for isn't an edit that stays
abbrev pub ComesBack : Parsed → Type 0
ComesBack (parsed.Args args) = args.remove_dev_deps ≡ false
ComesBack answer = Unit {0}

-- the command line doesn't ask for an edit that stays, whatever rustup answers
abbrev pub RestoresEdits : Env → List Name → Type 0
RestoresEdits env words = (rustup : Rustup) (answer : Parsed) (notes : List Note)
    → IsAnswer (around_of env rustup) (ComesTo (around_of env rustup) words) answer notes → ComesBack answer

-- each path holds what it held, except for at most as many paths as calls of the files failed
abbrev pub BringsBack : FilesView → FilesView → Type 0
BringsBack old new = LeavesFew (Unit {0}) old.held new.held old.failed new.failed

-- no call of the files failed, and, where edits don't stay, each path holds what it held
abbrev pub IsClean : Type 0 → Type 0 → FilesView → FilesView → Type 0
IsClean returns tells old new = GrowsBy 0 old.failed new.failed × (returns → tells → KeepsAll old.held new.held)
