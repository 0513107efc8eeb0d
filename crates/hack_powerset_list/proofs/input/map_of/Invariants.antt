use Rattle.std.proofs.Common.{◌≡◌}
use Rattle.serde_json.specs.View.{members_view}
use Rattle.hack_routes.specs.FeatureMap.{feature_map}
use Rattle.hack_powerset_list.specs.Input.{read_map, with_members}
use Rattle.hack_powerset_list.proofs.input.map_of.Given as goal

abbrev pub invariant-loop-key : goal.invariant-loop-key
invariant-loop-key l = read_map l.fn.bytes ≡ with_members (feature_map l.map) (members_view l.key-iterator)
