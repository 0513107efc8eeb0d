-- What command lines are read into.
use Rattle.std.specs.Prelude.{◌≡◌, ◌⊎◌, List, false, map}
use Rattle.hack_base.specs.Names.{Name}
use Rattle.hack_base.specs.Notes.{Note, note_of}
use Rattle.hack_rules.specs.CliFaults.{Fault}
use Rattle.hack_rules.specs.declared.fault.CliFault.TheVariants.{Memory}
use Rattle.hack_versions.specs.declared.rustup.Rustup.TheVariants.{Unasked}
use Rattle.hack_words.specs.CommandLine.{Around, ComesTo, Faulty}
use Rattle.hack_words.specs.ParseAnswers.{AnswersCommandLine, BreakNoRule, Refuses, around_of}
use Rattle.hack_words.specs.Start.{wants_rustup}
use Rattle.hack_words.specs.declared.cli.env.Env.{Env}
use Rattle.hack_words.specs.declared.cli.parse.Parsed.{Parsed}
use Rattle.hack_run.specs.declared.reading.Reading.{Reading}
use Rattle.hack_run.specs.declared.reading.Reading.TheVariants.{Accepted, Refused}

-- the words break no rule, and are read into this answer, with these notices
abbrev pub AreAccepted : Around → List Name → Parsed → List Note → Type 0
AreAccepted around words parsed notes =
    AnswersCommandLine around (ComesTo around words) parsed notes × BreakNoRule around words

-- what the words are read into, with the environment and what is known of rustup
abbrev pub IsReading : Around → List Name → Reading → Type 0
IsReading around words (Accepted parsed notices) = AreAccepted around words parsed (map note_of notices.items)
IsReading around words (Refused fault) = Refuses (ComesTo around words) fault

-- the same, where it doesn't matter which error refuses them
abbrev pub IsReadingOrRefusal : Around → List Name → Reading → Type 0
IsReadingOrRefusal around words (Accepted parsed notices) =
    AnswersCommandLine around (ComesTo around words) parsed (map note_of notices.items)
IsReadingOrRefusal around words (Refused fault) =
    (fault ≡ Memory) ⊎ ((told : Fault) × ComesTo around words (Faulty told))

-- what they are read into before anything is asked: no word needs rustup's version
abbrev pub IsEarlyReading : Env → List Name → Reading → Type 0
IsEarlyReading env words reading = (wants_rustup words ≡ false) × IsReading (around_of env Unasked) words reading

-- the same, where it doesn't matter which error refuses them
abbrev pub IsEarlyReadingOrRefusal : Env → List Name → Reading → Type 0
IsEarlyReadingOrRefusal env words reading =
    (wants_rustup words ≡ false) × IsReadingOrRefusal (around_of env Unasked) words reading
