-- The uses of options on a command line.
use Rattle.std.specs.Prelude.{ℕ, List, [], ◌∷◌, Bool, false, Option, Some, None, map, string_bytes}
use Rattle.std.specs.List.{list_any}
use Rattle.hack_base.specs.Names.{optional_text}
use Rattle.hack_options.specs.declared.opt.Opt.{Opt}
use Rattle.hack_options.specs.Table.{is_same_option}
use Rattle.hack_rules.specs.declared.uses.cut.Use.{Use as CodeUse}
use Rattle.hack_rules.specs.declared.uses.cut.Use.TheVariants as code
use Rattle.hack_lexopt.specs.Cuts.{Flag}
use Rattle.hack_rules.specs.Faults.{flag_seen}

-- a known option as written with its value, an unknown option with the rest of its argument, or an
-- argument that no option takes
pub data Use : Type 0 where
  Known : Opt → Flag → Option (List ℕ) → Use
  Unknown : Flag → Option (List ℕ) → Use
  Word : List ℕ → Use

-- the use that the code's value holds
abbrev pub view : CodeUse → Use
view (code.Known o flag value) = Known o (flag_seen flag) (optional_text value)
view (code.Unknown flag value) = Unknown (flag_seen flag) (optional_text value)
view (code.Word word) = Word (string_bytes word)

-- the uses that the code's values hold, in order
abbrev pub views : List CodeUse → List Use
views us = map view us

-- this is a use of the option
abbrev pub is_use_of : Opt → Use → Bool
is_use_of o (Known p flag value) = is_same_option p o
is_use_of o u = false

-- the option was used
abbrev pub is_given : Opt → List Use → Bool
is_given o us = list_any (is_use_of o) us

-- the first argument that no option takes
abbrev pub subcommand_of : List Use → Option (List ℕ)
subcommand_of [] = None
subcommand_of (Word word ∷ us) = Some word
subcommand_of (u ∷ us) = subcommand_of us
