use Rattle.std.proofs.Common.{◌≡◌, drop}
use Rattle.std.specs.List.{find}
use Rattle.std.specs.Str.{bytes_eq}
use Rattle.hack_options.specs.Table.{entry_of}
use Rattle.hack_options.proofs.find.find_name.Given as goal

abbrev pub invariant-loop-option : goal.invariant-loop-option
invariant-loop-option l =
    find (λ o. bytes_eq (entry_of o).name l.name) l.options
    ≡ find (λ o. bytes_eq (entry_of o).name l.name) (drop l.option-index l.options)
