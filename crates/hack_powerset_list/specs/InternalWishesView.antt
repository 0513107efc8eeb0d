-- What the values of options show.
use Rattle.std.specs.Prelude.{Option, option_map}
use Rattle.std.specs.Borrow.{Bor}
use Rattle.hack_base.specs.Names.{Name, names_behind}
use Rattle.hack_powerset_list.specs.declared.wishes.Values.{Values}
use Rattle.hack_powerset_list.specs.Words.{Written}

-- the text that a reference refers to, if there is one
abbrev pub shown_text : Option (Bor Name) → Option Name
shown_text text = option_map (λ t. t.now) text

-- the values that `Values` holds
abbrev pub written_in : Values → Written
written_in v = record { depth = shown_text v.depth; at_least_one_of = names_behind v.at_least_one_of.items; exclusive = names_behind v.mutually_exclusive.items }
