-- The start of a command line, before options are parsed.
use Rattle.std.specs.Prelude.{ℕ, List, [], ◌∷◌, not, ◌||◌, Bool, None, codes, length, nat_lt, nat_eq, bytes_eq, if◌then◌else◌}
use Rattle.std.specs.List.{after_first, before_first, filter, list_any, starts_with}
use Rattle.hack_options.specs.declared.opt.Opt.TheVariants as opt
use Rattle.hack_rules.specs.declared.uses.behavior.WorkspaceBehavior.{WorkspaceBehavior}
use Rattle.hack_rules.specs.declared.uses.behavior.WorkspaceBehavior.TheVariants.{Cargo, Default}
use Rattle.hack_lexopt.specs.Cuts.{LongFlag}
use Rattle.hack_rules.specs.Faults.{Repeat}
use Rattle.hack_rules.specs.CliFaults.{Fault, NoWord, NotHack, Cut}

-- the arguments before the first --
abbrev pub front_words : List (List ℕ) → List (List ℕ)
front_words ws = before_first (λ w. bytes_eq w (codes "--")) ws

-- the arguments after the first --
abbrev pub trailing_words : List (List ℕ) → List (List ℕ)
trailing_words ws = after_first (λ w. bytes_eq w (codes "--")) ws

-- the argument that leaves workspaces to Cargo
abbrev pub is_behavior : List ℕ → Bool
is_behavior w = bytes_eq w (codes "--workspace-behavior=cargo")

-- the start of a command line: an error, or who handles workspaces, the arguments to parse, and
-- those after --
pub data Start : Type 0 where
  Refuses : Fault → Start
  Cuts : WorkspaceBehavior → List (List ℕ) → List (List ℕ) → Start

-- the start, given the arguments before and after --: Cargo handles workspaces where that argument
-- occurs once, and the others are parsed
abbrev pub start_with : List (List ℕ) → List (List ℕ) → Start
start_with front trailing =
    if nat_lt 1 (length (filter is_behavior front))
    then Refuses (Cut (Repeat (LongFlag (codes "workspace-behavior")) opt.WorkspaceBehavior None))
    else Cuts (if nat_lt 0 (length (filter is_behavior front)) then Cargo else Default)
    (filter (λ w. not (is_behavior w)) front) trailing

-- the first argument is hack
abbrev pub start_of : List (List ℕ) → Start
start_of [] = Refuses NoWord
start_of (w ∷ ws) = if bytes_eq w (codes "hack") then start_with (front_words ws) (trailing_words ws) else Refuses (NotHack w)

-- an option that asks for a range of versions, which may be attached
abbrev pub is_range_word : List ℕ → Bool
is_range_word w =
    (bytes_eq w (codes "--rust-version") || bytes_eq w (codes "--version-range"))
    || starts_with nat_eq w (codes "--version-range=")

-- an argument before the first -- asks for a range of versions
abbrev pub wants_rustup : List (List ℕ) → Bool
wants_rustup ws = list_any is_range_word (front_words ws)
