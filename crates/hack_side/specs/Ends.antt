-- When a search may not go on.
use Rattle.std.specs.Prelude.{ℕ, Bool, true, false, not, ◌||◌, Option, nat_lt}
use Rattle.std.specs.Option.{option_map_or}
use Rattle.hack_process.specs.declared.fault.ProcessFault.{ProcessFault}
use Rattle.hack_process.specs.declared.fault.ProcessFault.TheVariants.{Failed}

-- a command was started, and didn't succeed
abbrev pub is_failure : ProcessFault → Bool
is_failure (Failed failure) = true
is_failure fault = false

-- an error was kept, and it is another than that a command failed
abbrev pub is_end : Option ProcessFault → Bool
is_end kept = option_map_or (λ fault. not (is_failure fault)) kept false

-- memory was refused, or such an error was kept
abbrev pub has_ended : Option ProcessFault → ℕ → Bool
has_ended kept refused = nat_lt 0 refused || is_end kept
