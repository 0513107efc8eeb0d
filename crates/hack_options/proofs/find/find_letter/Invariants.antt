use Rattle.std.proofs.Common.{◌≡◌, ◌==◌, drop, false}
use Rattle.std.specs.List.{find}
use Rattle.std.specs.Option.{option_map_or}
use Rattle.hack_options.specs.Table.{entry_of}
use Rattle.hack_options.proofs.find.find_letter.Given as goal

abbrev pub invariant-loop-option : goal.invariant-loop-option
invariant-loop-option l =
    find (λ o. option_map_or (λ c. c == l.letter) (entry_of o).letter false) l.options
    ≡ find (λ o. option_map_or (λ c. c == l.letter) (entry_of o).letter false) (drop l.option-index l.options)
