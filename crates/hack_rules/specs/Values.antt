-- The values that uses give to an option.
use Rattle.std.specs.Prelude.{ℕ, List, Option, None, option_and_then, slice_get, if◌then◌else◌}
use Rattle.std.specs.List.{filter_map}
use Rattle.hack_options.specs.declared.opt.Opt.{Opt}
use Rattle.hack_options.specs.Table.{is_same_option}
use Rattle.hack_rules.specs.Uses.{Use, Known}

-- the value that this use gives to the option
abbrev pub value_in : Opt → Use → Option (List ℕ)
value_in o (Known p flag value) = if is_same_option p o then value else None
value_in o u = None

-- the values of all uses of an option, in order
abbrev pub values_given : Opt → List Use → List (List ℕ)
values_given o us = filter_map (value_in o) us

-- the value of the first use that has one, for an option that may be given once
abbrev pub value_given : Opt → List Use → Option (List ℕ)
value_given o us = slice_get (values_given o us) 0

-- what the value of an option is read as, if there is one
abbrev pub from_value : {A : Type 0} → Opt → (List ℕ → Option A) → List Use → Option A
from_value option read us = option_and_then read (value_given option us)
