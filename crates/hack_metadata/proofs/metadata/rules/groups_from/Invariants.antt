use Rattle.std.proofs.Common.{◌≡◌, ◌++◌, option_map}
use Rattle.serde_json.specs.View.{items_view}
use Rattle.hack_features.specs.Feature.{groups_of}
use Rattle.hack_metadata.specs.RuleTables.{groups_of_items}
use Rattle.hack_metadata.proofs.metadata.rules.groups_from.Given as goal

-- the groups so far, and then those of the items left, are those of the whole list
abbrev pub invariant-loop-value : goal.invariant-loop-value
invariant-loop-value l = option_map (λ more. groups_of l.groups.items ++ more) (groups_of_items (items_view l.value-iterator.rest.items)) ≡ groups_of_items (items_view l.fn.list.items)
