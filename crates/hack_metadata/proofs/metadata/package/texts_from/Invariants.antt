use Rattle.std.proofs.Common.{◌≡◌, ◌++◌, option_map}
use Rattle.serde_json.specs.View.{items_view}
use Rattle.hack_base.specs.Names.{names_of}
use Rattle.hack_metadata.specs.Fields.{texts_of_items}
use Rattle.hack_metadata.proofs.metadata.package.texts_from.Given as goal

-- the texts so far, and then those of the items left, are those of the whole list
abbrev pub invariant-loop-value : goal.invariant-loop-value
invariant-loop-value l = option_map (λ more. names_of l.texts.items ++ more) (texts_of_items (items_view l.value-iterator.rest.items)) ≡ texts_of_items (items_view l.fn.list.items)
