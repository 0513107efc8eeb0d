-- What a command line asks of manifests.
use Rattle.std.specs.Prelude.{◌≡◌, Bool, true, false, List, Option, None}
use Rattle.hack_base.specs.Names.{Name, optional_text}
use Rattle.hack_base.specs.Notes.{Note}
use Rattle.hack_rules.specs.CliFaults.{Fault}
use Rattle.hack_versions.specs.declared.rustup.Rustup.TheVariants.{Unasked}
use Rattle.hack_words.specs.ParseAnswers.{AnswersCommandLine as IsAnswer, around_of}
use Rattle.hack_words.specs.CommandLine.{ComesTo, Faulty}
use Rattle.hack_words.specs.declared.cli.env.Env.{Env}
use Rattle.hack_words.specs.declared.cli.parse.Parsed.{Parsed}
use Rattle.hack_words.specs.declared.cli.parse.Parsed.TheVariants as answer
use Rattle.hack_words.specs.Edits.{edits_asked}
use Rattle.hack_words.specs.declared.cli.edits.Edits.{Edits}
use Rattle.hack_words.specs.declared.cli.edits.Edits.TheVariants as edits

-- what a parsed command line does to manifests: nothing, where it asks for a text or a list
abbrev pub edits_by : Parsed → Edits
edits_by (answer.Args args) = edits_asked args
edits_by (answer.Print text) = edits.None
edits_by answer.List = edits.None

-- the manifest that a parsed command line names
abbrev pub manifest_by : Parsed → Option Name
manifest_by (answer.Args args) = optional_text args.manifest_path
manifest_by (answer.Print text) = None
manifest_by answer.List = None

-- whether a parsed command line asks for a text, or for cargo's list
abbrev pub prints_by : Parsed → Bool
prints_by (answer.Args args) = false
prints_by (answer.Print text) = true
prints_by answer.List = true

-- what a command line asks for: what it is parsed into says so, and one that is refused asks for
-- `refused`; what is known of rustup matters only for whether it is refused
pub data Asks {A : Type 0} (of : Parsed → A) (refused : A) (env : Env) (words : List Name) (asked : A) : Type 0 where
  parsed : (read : Parsed) (notes : List Note) → IsAnswer (around_of env Unasked) (ComesTo (around_of env Unasked) words) read notes → asked ≡ of read → Asks of refused env words asked
  faulty : (told : Fault) → ComesTo (around_of env Unasked) words (Faulty told) → asked ≡ refused → Asks of refused env words asked

-- what a command line does to manifests, and the one that it names; one that is refused does nothing,
-- and names none
abbrev pub AsksForEdits : Env → List Name → Edits → Option Name → Type 0
AsksForEdits env words does path = Asks {A = Edits × Option Name} (λ read. (edits_by read, manifest_by read)) (edits.None, None) env words (does, path)

-- whether a command line asks for a text, or for cargo's list; one that is refused doesn't
abbrev pub AsksToPrint : Env → List Name → Bool → Type 0
AsksToPrint = Asks prints_by false
