use Rattle.std.proofs.Common.{length, map}
use Rattle.serde_json.specs.View.{members_view}
use Rattle.hack_metadata.specs.RecordViews.{place_at, nodes_view}
use Rattle.hack_metadata.specs.Internal.{place_in}
use Rattle.hack_metadata.proofs.KnownLemmas.{all-known}
use Rattle.hack_metadata.proofs.metadata.Metadata.with_packages.Goals as goal

pub invariant_of-result : goal.invariant_of-result
invariant_of-result c = record {
  known = all-known (place_in c.args.ids.now) (length c.args.packages.items) c.requires c.args.cargo_version (members_view c.args.object.entries) (members_view c.remove_members.new.object.entries) (map place_at c.in_ok-workspace_members.workspace_members.items) (nodes_view c.in_ok-resolve.resolve.nodes)
      c.in_ok-workspace_members.ensures.value c.in_ok-resolve.ensures.value;
}
