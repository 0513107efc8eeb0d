-- What only private functions of the crate promise each other: why a call doesn't begin.
use Rattle.std.specs.Prelude.{◌≡◌, List, IfSome, false, string_bytes, true}
use Rattle.hack_base.specs.Counters.{GrowsBy}
use Rattle.hack_base.specs.Names.{Name, optional_text}
use Rattle.hack_files.specs.declared.fs.Files.{Ghosts as Filing}
use Rattle.hack_journal.specs.Refusing.{IsUnseen}
use Rattle.hack_run.specs.Readings.{IsEarlyReading}
use Rattle.hack_words.specs.declared.cli.env.Env.{Env}
use Rattle.hack_recovery.specs.AskedEdits.{AsksForEdits, AsksToPrint}
use Rattle.hack_recovery.specs.CallCourses.{IsLookedAt}
use Rattle.hack_recovery.specs.Scenes.{OneMayFail}
use Rattle.hack_recovery.specs.declared.begin.Halt.{Halt}
use Rattle.hack_recovery.specs.declared.begin.Halt.TheVariants.{Memory, Prints, Unseen}

-- Memory was refused, and at most one look failed. Or the command line asks for a text or cargo's list, and
-- no file was looked at. Or it doesn't, and a look failed, which left this path unseen that is looked at for what it
-- asks for.
abbrev pub IsHalt : {F : Type 0} → Filing F → Type 0 → (Name → Name) → Env → List Name → F → F → Halt → Type 0
IsHalt f records real env words old new Memory = OneMayFail (f.failed old) (f.failed new)
IsHalt f records real env words old new (Prints reading) = (new ≡ old) × AsksToPrint env words true × IfSome reading (IsEarlyReading env words)
IsHalt f records real env words old new (Unseen asked path) =
    GrowsBy 1 (f.failed old) (f.failed new) × IsUnseen f (string_bytes path) × AsksForEdits env words asked.edits (optional_text asked.manifest_path) × IfSome asked.reading (IsEarlyReading env words)
    × IsLookedAt f.tells records real (f.bytes_at old) (optional_text asked.manifest_path) env (string_bytes path) × AsksToPrint env words false
