-- How a program ended.
use Rattle.std.specs.Prelude.{◌≡◌, Option, Some, None, ℤ}
use Rattle.hack_process.specs.declared.caller.End.{End}
use Rattle.hack_process.specs.declared.caller.End.TheVariants.{Status, Signal, NeverStarted}

-- a program ended with its status where it has one, and else by its signal
abbrev pub IsEndOf : Option ℤ → Option ℤ → End → Type 0
IsEndOf (Some code) signal how = how ≡ Status code
IsEndOf None (Some signal) how = how ≡ Signal signal
IsEndOf None None how = how ≡ NeverStarted
