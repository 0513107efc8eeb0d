-- What a call is started with.
use Rattle.std.specs.Prelude.{◌≡◌, ◌&&◌, ◌⊎◌, List, [], ◌∷◌, Bool, true, false, not, Option, Some, None, Result, Ok, Err, drop, codes, bytes_eq, option_map, if◌then◌else◌}
use Rattle.std.proofs.Common.{Global, String, Vec}
use Rattle.std.specs.List.{list_any}
use Rattle.std.specs.Option.{is_some, unwrap_or}
use Rattle.hack_base.specs.Names.{Name, names_of}
use Rattle.hack_term.specs.declared.term.Coloring.{Coloring}
use Rattle.hack_term.specs.declared.term.Coloring.TheVariants.{Always, Auto}
use Rattle.hack_words.specs.declared.cli.env.Env.{Env}
use Rattle.hack_recovery.specs.declared.started.StartFault.{StartFault}
use Rattle.hack_recovery.specs.declared.started.StartFault.TheVariants as fault
use Rattle.hack_recovery.specs.declared.started.Started.{Started}
use Rattle.hack_words.specs.EnvView.{IsEnvBy}
use Rattle.hack_recovery.specs.SystemView.{SystemView, VariableState, Unset, Text, NotText}

-- a terminal that can show colours: TERM is set to a text, but not to dumb
abbrev pub is_capable : VariableState → Bool
is_capable Unset = false
is_capable (Text name) = not (bytes_eq name (codes "dumb"))
is_capable NotText = false

-- a variable is not set
abbrev pub is_unset : VariableState → Bool
is_unset Unset = true
is_unset (Text text) = false
is_unset NotText = false

-- a variable is set to what is not UTF-8
abbrev pub is_not_text : VariableState → Bool
is_not_text Unset = false
is_not_text (Text text) = false
is_not_text NotText = true

-- the text of a variable, if it has one
abbrev pub variable_text : VariableState → Option Name
variable_text Unset = None
variable_text (Text text) = Some text
variable_text NotText = None

-- lines are coloured on a terminal that can show it, unless NO_COLOR is set
abbrev pub is_colored : Bool → SystemView → Bool
is_colored is_terminal system =
    is_terminal && is_capable (system.variable (codes "TERM")) && is_unset (system.variable (codes "NO_COLOR"))

-- how lines are coloured until the command line says otherwise
abbrev pub auto_coloring_of : Bool → SystemView → Coloring
auto_coloring_of is_terminal system = if is_colored is_terminal system then Always else Auto

-- the arguments after the program's name
abbrev pub AreWords : SystemView → List (String Global) → Type 0
AreWords system words = option_map (drop 1) system.arguments ≡ Some (names_of words)

-- the variables that a call reads
abbrev pub variables_read : List Name
variables_read = codes "CARGO_TERM_COLOR" ∷ codes "GITHUB_ACTIONS" ∷ codes "CARGO_HACK_DENY_WARNINGS"
    ∷ codes "CARGO_HACK_CARGO_SRC" ∷ codes "CARGO" ∷ codes "CARGO_HACK_RUSTUP"
    ∷ codes "CARGO_HACK_GUARD" ∷ []

-- one of them is not UTF-8
abbrev pub has_unreadable : SystemView → Bool
has_unreadable system = list_any (λ name. is_not_text (system.variable name)) variables_read

-- all of them are UTF-8, and this is the environment that they and the folder give
abbrev pub HasEnv : SystemView → Env → Type 0
HasEnv system env =
    (has_unreadable system ≡ false)
    × IsEnvBy (λ name. variable_text (system.variable name)) (unwrap_or system.folder [])
    (is_some (variable_text (system.variable (codes "CARGO_HACK_GUARD")))) env

-- the arguments; else memory was refused, or one of them is not UTF-8
abbrev pub GivesWords : Type 0 → SystemView → Result (Vec (String Global) Global) StartFault → Type 0
GivesWords tells system (Ok words) = tells → AreWords system words.items
GivesWords tells system (Err fault.Memory) = Unit {0}
GivesWords tells system (Err fault.Words) = tells → system.arguments ≡ None
GivesWords tells system (Err fault.Variables) = ⊥

-- the environment; else memory was refused, or a variable that is read is not UTF-8
abbrev pub GivesEnv : Type 0 → SystemView → Result Env StartFault → Type 0
GivesEnv tells system (Ok env) = tells → HasEnv system env
GivesEnv tells system (Err fault.Memory) = Unit {0}
GivesEnv tells system (Err fault.Words) = ⊥
GivesEnv tells system (Err fault.Variables) = tells → has_unreadable system ≡ true

-- how lines are coloured was set, or memory was refused before that
abbrev pub SetsColoring : Coloring → Coloring → Coloring → Result Started StartFault → Type 0
SetsColoring wanted old new (Err fault.Memory) = (new ≡ wanted) ⊎ (new ≡ old)
SetsColoring wanted old new (Err fault.Words) = new ≡ wanted
SetsColoring wanted old new (Err fault.Variables) = new ≡ wanted
SetsColoring wanted old new (Ok started) = new ≡ wanted

-- both; else memory was refused, or an argument is not UTF-8, or all are but a variable is not
abbrev pub GivesStart : Type 0 → SystemView → Result Started StartFault → Type 0
GivesStart tells system (Ok started) = tells → AreWords system started.words.items × HasEnv system started.env
GivesStart tells system (Err fault.Memory) = Unit {0}
GivesStart tells system (Err fault.Words) = tells → system.arguments ≡ None
GivesStart tells system (Err fault.Variables) =
    tells → (is_some system.arguments ≡ true) × (has_unreadable system ≡ true)

-- the error message
abbrev pub start_fault_text : StartFault → Name
start_fault_text fault.Memory = codes "out of memory"
start_fault_text fault.Words = codes "the words must be UTF-8"
start_fault_text fault.Variables = codes "the variables of the environment must be UTF-8"
