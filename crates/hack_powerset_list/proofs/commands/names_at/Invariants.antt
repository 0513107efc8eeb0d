use Rattle.std.proofs.Common.{◌≡◌, map, take}
use Rattle.hack_base.specs.Names.{names_behind}
use Rattle.hack_features.specs.Feature.{name_of}
use Rattle.hack_sets.specs.Sets.{items_at}
use Rattle.hack_powerset_list.proofs.commands.names_at.Given as goal

abbrev pub invariant-loop-p : goal.invariant-loop-p
invariant-loop-p l = names_behind l.names.items ≡ items_at (map name_of l.features) (take l.p-index l.positions)
