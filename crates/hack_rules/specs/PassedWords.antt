-- The arguments that uses of options pass on to cargo.
use Rattle.std.specs.Prelude.{ℕ, ◌&&◌, ◌||◌, List, [], ◌∷◌, ◌++◌, Bool, Option, Some, None, codes, if◌then◌else◌}
use Rattle.std.specs.List.{flat_map, list_any}
use Rattle.std.specs.Option.{option_to_list}
use Rattle.hack_lexopt.specs.Cuts.{Flag, LongFlag, ShortFlag, flag_text}
use Rattle.hack_options.specs.declared.opt.Opt.{Opt}
use Rattle.hack_options.specs.declared.opt.Opt.TheVariants as opt
use Rattle.hack_options.specs.Table.{is_same_option}
use Rattle.hack_rules.specs.declared.uses.behavior.WorkspaceBehavior.{WorkspaceBehavior}
use Rattle.hack_rules.specs.Behavior.{is_cargo}
use Rattle.hack_rules.specs.Uses.{Use, Known, Unknown, Word}

-- an option of the table that is also passed on to cargo; some are only where cargo handles the
-- workspace
abbrev pub is_passed_on : WorkspaceBehavior → Opt → Bool
is_passed_on behavior o =
    list_any (is_same_option o) (opt.Locked ∷ opt.NoDefaultFeatures ∷ opt.AllFeatures ∷ opt.Color ∷ [])
    || is_cargo behavior
    && list_any (is_same_option o) (opt.ManifestPath ∷ opt.Package ∷ opt.Exclude ∷ opt.Workspace ∷ [])

-- an unknown option and the rest of its argument, in one argument
abbrev pub word_of : Flag → Option (List ℕ) → List ℕ
word_of flag None = flag_text flag
word_of (LongFlag name) (Some value) = flag_text (LongFlag name) ++ (codes "=" ++ value)
word_of (ShortFlag c) (Some value) = flag_text (ShortFlag c) ++ value

-- the arguments that a use passes on to cargo; a value is an argument of its own
abbrev pub words_passed : WorkspaceBehavior → Use → List (List ℕ)
words_passed behavior (Word word) = word ∷ []
words_passed behavior (Unknown flag value) = word_of flag value ∷ []
words_passed behavior (Known o flag value) =
    if is_passed_on behavior o then flag_text flag ∷ option_to_list value else []

-- the arguments that all uses pass on to cargo, in order
abbrev pub leading_of : WorkspaceBehavior → List Use → List (List ℕ)
leading_of behavior us = flat_map (words_passed behavior) us
