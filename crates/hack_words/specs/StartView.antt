-- The start of a command line, as the code returns it.
use Rattle.std.specs.Prelude.{ℕ, ◌≡◌, List, Result, Ok, Err, MatchOption}
use Rattle.hack_base.specs.Names.{names_of}
use Rattle.hack_rules.specs.declared.fault.CliFault.{CliFault}
use Rattle.hack_rules.specs.declared.fault.CliFault.TheVariants as fault
use Rattle.hack_words.specs.declared.cli.start.Start.{Start as CodeStart}
use Rattle.hack_rules.specs.CliFaults.{fault_of}
use Rattle.hack_words.specs.Start.{Start, Refuses, Cuts, start_of}

-- the start that the code has read
abbrev pub start_in : CodeStart → Start
start_in start = Cuts start.behavior (names_of start.words.items) (names_of start.trailing.items)

-- the code returns the start of the command line
abbrev pub ReturnsStart : Result CodeStart CliFault → List (List ℕ) → Type 0
ReturnsStart (Ok start) words = start_of words ≡ start_in start
ReturnsStart (Err e) words = MatchOption (fault_of e) (e ≡ fault.Memory) (λ told. start_of words ≡ Refuses told)
