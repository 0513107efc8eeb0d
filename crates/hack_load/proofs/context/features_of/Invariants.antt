use Rattle.std.proofs.Common.{ℕ, ◌<◌, get_or, map}
use Rattle.hack_metadata.specs.RecordViews.{place_at}
use Rattle.hack_metadata.specs.MetadataView.{metadata_view}
use Rattle.hack_load.specs.Candidates.{MissesNode}
use Rattle.hack_load.proofs.BuildLemmas.{Completes}
use Rattle.hack_load.proofs.context.features_of.Given as goal

-- the members so far have their candidates, and miss no node
abbrev pub invariant-loop-at : goal.invariant-loop-at
invariant-loop-at l =
    Completes (metadata_view l.metadata) l.asked (map place_at l.metadata.workspace_members.items) l.manifests l.at l.found.items
    × ((k d : ℕ) → k < l.at → ¬ MissesNode (metadata_view l.metadata) (get_or (map place_at l.metadata.workspace_members.items) k d) l.asked)
