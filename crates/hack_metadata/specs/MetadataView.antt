-- The metadata as plain data.
use Rattle.std.specs.Prelude.{map, string_bytes}
use Rattle.hack_base.specs.Names.{optional_text}
use Rattle.hack_metadata.specs.Records.{MetadataRecord}
use Rattle.hack_metadata.specs.RecordViews.{package_view, place_at, nodes_view, rules_reading}
use Rattle.hack_metadata.specs.declared.metadata.Metadata.{Metadata}

-- all that cargo reports of a workspace
abbrev pub metadata_view : Metadata → MetadataRecord
metadata_view m = record { cargo_version = m.cargo_version; packages = map package_view m.packages.items; workspace_members = map place_at m.workspace_members.items; resolve = nodes_view m.resolve.nodes; workspace_root = string_bytes m.workspace_root; target_directory = optional_text m.target_directory; rules = rules_reading m.rules }
