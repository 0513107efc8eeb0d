-- How an option is found by its name or letter.
use Rattle.std.specs.Prelude.{ℕ, ◌≡◌, ◌==◌, ◌↔◌, List, false, Option, Some}
use Rattle.std.specs.List.{find}
use Rattle.std.specs.Option.{option_map_or}
use Rattle.std.specs.Str.{bytes_eq}
use Rattle.hack_options.specs.declared.opt.Opt.{Opt}
use Rattle.hack_options.specs.declared.table.TheConstants.{ALL}
use Rattle.hack_options.specs.Table.{entry_of}

-- the option of a long name
abbrev pub long_option : List ℕ → Option Opt
long_option name = find (λ o. bytes_eq (entry_of o).name name) ALL

-- the option with this letter
abbrev pub short_option : ℕ → Option Opt
short_option letter = find (λ o. option_map_or (λ l. l == letter) (entry_of o).letter false) ALL

-- the answer is the only option for which P holds, or none where P holds for none
abbrev pub FindsOption : Option Opt → (Opt → Type 0) → Type 0
FindsOption found P = (option : Opt) → (found ≡ Some option) ↔ P option
