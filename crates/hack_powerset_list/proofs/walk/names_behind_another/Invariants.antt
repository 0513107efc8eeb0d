use Rattle.std.proofs.Common.{◌≡◌, map, take, string_bytes}
use Rattle.hack_features.specs.Feature.{name_of}
use Rattle.hack_sets.specs.Sets.{items_at}
use Rattle.hack_powerset_list.specs.LineWords.{others_text}
use Rattle.hack_powerset_list.proofs.walk.names_behind_another.Given as goal

abbrev pub invariant-loop-p : goal.invariant-loop-p
invariant-loop-p l = string_bytes l.others ≡ others_text (items_at (map name_of l.features) (take l.p-index l.positions))
