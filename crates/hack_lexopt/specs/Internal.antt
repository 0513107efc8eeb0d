-- What only private functions of the crate promise each other.
use Rattle.std.specs.Prelude.{ℕ, Option, Some, None}
use Rattle.hack_lexopt.specs.Cuts.{Cut, FlagCut, ShortFlag}

-- the letter of an item, where it is one of a chain
abbrev pub letter_in : Cut → Option ℕ
letter_in (FlagCut (ShortFlag letter)) = Some letter
letter_in cut = None
