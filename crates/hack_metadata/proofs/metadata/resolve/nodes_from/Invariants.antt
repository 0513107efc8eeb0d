use Rattle.std.proofs.Common.{◌≡◌, [], Ok}
use Rattle.serde_json.specs.View.{items_view}
use Rattle.hack_metadata.specs.Fields.{read_all}
use Rattle.hack_base.specs.FieldReadings.{◌>>=◌}
use Rattle.hack_metadata.specs.MetadataReading.{read_node, with_nodes}
use Rattle.hack_metadata.specs.RecordViews.{nodes_view}
use Rattle.hack_metadata.specs.Internal.{place_in}
use Rattle.hack_metadata.proofs.metadata.resolve.nodes_from.Given as goal

-- the nodes so far, with those left inserted after them, are those of the whole list
abbrev pub invariant-loop-value : goal.invariant-loop-value
invariant-loop-value l =
    (read_all (read_node (place_in l.fn.ids) l.fn.cargo_version) (items_view l.value-iterator.rest.items) >>= λ more. Ok (with_nodes (nodes_view l.nodes) more))
    ≡ (read_all (read_node (place_in l.fn.ids) l.fn.cargo_version) (items_view l.fn.list.items) >>= λ nodes. Ok (with_nodes [] nodes))
