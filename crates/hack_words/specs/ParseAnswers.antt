-- How the code answers a command line.
use Rattle.std.specs.Prelude.{◌≡◌, ℕ, List, [], MatchOption, string_bytes, codes}
use Rattle.hack_base.specs.Names.{optional_text}
use Rattle.hack_rules.specs.declared.uses.behavior.WorkspaceBehavior.{WorkspaceBehavior}
use Rattle.hack_rules.specs.Uses.{Use}
use Rattle.hack_rules.specs.declared.uses.cut.Print.{Print}
use Rattle.hack_rules.specs.declared.uses.cut.Print.TheVariants.{Version}
use Rattle.hack_base.specs.Notes.{Note}
use Rattle.hack_versions.specs.declared.rustup.Rustup.{Rustup}
use Rattle.hack_words.specs.declared.cli.env.Env.{Env}
use Rattle.hack_rules.specs.declared.fault.CliFault.{CliFault}
use Rattle.hack_rules.specs.declared.fault.CliFault.TheVariants as fault
use Rattle.hack_words.specs.declared.cli.parse.Parsed.{Parsed as CodeParsed}
use Rattle.hack_words.specs.declared.cli.parse.Parsed.TheVariants as code
use Rattle.hack_words.specs.ArgsView.{IsAsked}
use Rattle.hack_words.specs.CommandLine.{Around, CommandLineOutcome, Faulty, Printed, Listing, Parsed, ComesTo, unknown_notes, notes_on}
use Rattle.hack_rules.specs.CliFaults.{Fault, fault_of}
use Rattle.hack_words.specs.RustupView.{known_of, unknown_of}

-- what is known besides the command line
abbrev pub around_of : Env → Rustup → Around
around_of env rustup = record { term_color = optional_text env.term_color; github_actions = env.github_actions; rustup = known_of rustup; unknown = unknown_of rustup }

-- the text printed for the version; tests check those of the help
abbrev pub IsText : Print → List ℕ → Type 0
IsText Version text = text ≡ codes "cargo-hack 0.6.46\n"
IsText print text = Unit {0}

-- the answer, with its notices, to a command line whose outcome `Comes` says
abbrev pub AnswersCommandLine : Around → (CommandLineOutcome → Type 0) → CodeParsed → List Note → Type 0
AnswersCommandLine around Comes (code.Args args) notes =
    (behavior : WorkspaceBehavior) × (trailing : List (List ℕ)) × (us : List Use) × Comes (Parsed behavior trailing us)
    × IsAsked around.term_color around.github_actions behavior trailing us args × (notes ≡ notes_on around us)
AnswersCommandLine around Comes code.List notes = (us : List Use) × Comes (Listing us) × (notes ≡ unknown_notes us)
AnswersCommandLine around Comes (code.Print text) notes = (print : Print) × Comes (Printed print) × IsText print (string_bytes text) × (notes ≡ [])

-- an error of the command line, or out of memory, which is reported by itself and never inside
-- another error
abbrev pub Refuses : (CommandLineOutcome → Type 0) → CliFault → Type 0
Refuses Comes e = MatchOption (fault_of e) (e ≡ fault.Memory) (λ told. Comes (Faulty told))

-- the command line leads to no error
abbrev pub BreakNoRule : Around → List (List ℕ) → Type 0
BreakNoRule around words = (told : Fault) → ComesTo around words (Faulty told) → ⊥
