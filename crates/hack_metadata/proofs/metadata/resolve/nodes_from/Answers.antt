use Rattle.std.proofs.Common.{◌≡◌, ◌∷◌, arith, ap}
use Rattle.std.proofs.lemmas.Grind.{common_steps}
use Rattle.serde_json.specs.View.{view, items_view}
use Rattle.hack_metadata.specs.MetadataReading.{read_node}
use Rattle.hack_metadata.specs.RecordViews.{node_view, nodes_view}
use Rattle.hack_metadata.specs.Internal.{place_in}
use Rattle.hack_metadata.proofs.NodeLemmas.{nodes-insert, nodes-turn}
use Rattle.hack_metadata.proofs.metadata.resolve.nodes_from.Goals as goal

pub loop-value-preserved-in_ok-insert : goal.loop-value-preserved-in_ok-insert
loop-value-preserved-in_ok-insert c =
    let iter : c.loop-value.value-iterator.rest.items ≡ c.in-Some.value ∷ c.next.new.self.rest.items = grind (arith, common_steps) in
    nodes-turn (read_node (place_in c.args.ids.now) c.args.cargo_version) (view c.in-Some.value) _ (items_view c.next.new.self.rest.items) (nodes_view c.loop-value.nodes) (nodes_view c.insert.new.self) c.in_ok-package.package.index (node_view c.in_ok-package.node) _
    (ap items_view iter) c.in_ok-package.ensures (nodes-insert c.loop-value.nodes c.insert.new.self c.in_ok-package.package c.in_ok-package.node c.in_ok-insert.ensures.entries) c.loop-value.invariant

pub loop-value-preserved : goal.loop-value-preserved
loop-value-preserved c =
    let iter : c.loop-value.value-iterator.rest.items ≡ c.in-Some.value ∷ c.next.new.self.rest.items = grind (arith, common_steps) in
    nodes-turn (read_node (place_in c.args.ids.now) c.args.cargo_version) (view c.in-Some.value) _ (items_view c.next.new.self.rest.items) (nodes_view c.loop-value.nodes) (nodes_view c.insert.new.self) c.in_ok-package.package.index (node_view c.in_ok-package.node) _
    (ap items_view iter) c.in_ok-package.ensures (nodes-insert c.loop-value.nodes c.insert.new.self c.in_ok-package.package c.in_ok-package.node c.in_ok-insert.ensures.entries) c.loop-value.invariant
