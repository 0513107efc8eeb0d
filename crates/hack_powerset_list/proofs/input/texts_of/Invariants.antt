use Rattle.std.proofs.Common.{◌≡◌, ◌++◌, option_map}
use Rattle.serde_json.specs.View.{view, items_view}
use Rattle.hack_base.specs.Names.{names_of}
use Rattle.hack_powerset_list.specs.Input.{values_in, all_texts_in}
use Rattle.hack_powerset_list.proofs.input.texts_of.Given as goal

abbrev pub invariant-loop-item : goal.invariant-loop-item
invariant-loop-item l = values_in (view l.fn.value) ≡ option_map (λ rest. names_of l.texts.items ++ rest) (all_texts_in (items_view l.item-iterator.rest.items))
