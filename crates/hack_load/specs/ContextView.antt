-- The parts of a context as callers see them.
use Rattle.std.specs.Prelude.{ℕ, List, Option, option_map, string_bytes}
use Rattle.std.proofs.Common.{Global, String}
use Rattle.hack_words.specs.declared.cli.args.Args.{Args}
use Rattle.hack_metadata.specs.RecordViews.{place_at}
use Rattle.hack_metadata.specs.MetadataView.{metadata_view}
use Rattle.hack_metadata.specs.declared.metadata.Metadata.{Metadata}
use Rattle.hack_metadata.specs.declared.metadata.resolve.PackageId.{PackageId}
use Rattle.hack_manifest.specs.declared.manifest.Manifest.{Manifest}
use Rattle.hack_load.specs.Contexts.{ContextRecord}
use Rattle.hack_load.specs.declared.context.Context.{Context}
use Rattle.hack_load.specs.declared.features.Features.{Features}

-- the context of these parts
abbrev pub context_of : Args → Metadata → List Manifest → List Features → String Global → ℕ → String Global → Option PackageId → ContextRecord
context_of args metadata manifests features cargo minor dir current = record {
  args = args;
  metadata = metadata_view metadata;
  manifests = manifests;
  features = features;
  cargo = string_bytes cargo;
  cargo_minor = minor;
  current_dir = string_bytes dir;
  current_package = option_map place_at current;
}

-- a context as plain data
abbrev pub context_view : Context → ContextRecord
context_view c = context_of c.args c.metadata c.manifests.items c.features.items c.cargo c.cargo_minor c.current_dir c.current_package
