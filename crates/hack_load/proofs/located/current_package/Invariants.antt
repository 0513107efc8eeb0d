use Rattle.std.proofs.Common.{◌≡◌, drop, map}
use Rattle.std.specs.List.{find}
use Rattle.hack_load.specs.Located.{has_manifest}
use Rattle.hack_metadata.specs.RecordViews.{package_view, place_at}
use Rattle.hack_load.proofs.located.current_package.Given as goal

-- no member so far has the manifest
abbrev pub invariant-loop-id : goal.invariant-loop-id
invariant-loop-id l = find (has_manifest (map package_view l.metadata.packages.items) l.root) (map place_at (drop l.id-index l.metadata.workspace_members.items)) ≡ find (has_manifest (map package_view l.metadata.packages.items) l.root) (map place_at l.metadata.workspace_members.items)
