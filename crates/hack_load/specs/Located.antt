-- The current package of a call.
use Rattle.std.specs.Prelude.{ℕ, Bool, false, List, Option, codes, option_and_then, option_map, slice_get, unwrap_or}
use Rattle.std.specs.List.{find}
use Rattle.std.specs.Str.{bytes_eq}
use Rattle.serde_json.specs.Data.{Members}
use Rattle.serde_json.specs.Find.{as_str, get_member}
use Rattle.hack_base.specs.Names.{Name}
use Rattle.hack_metadata.specs.Fields.{object_in_text}
use Rattle.hack_metadata.specs.Records.{PackageRecord, MetadataRecord}

-- the text at `root`
abbrev pub root_at : Members → Option Name
root_at ms = option_and_then as_str (get_member (codes "root") ms)

-- the same of the JSON object that a text is
abbrev pub root_in : List ℕ → Option Name
root_in text = option_and_then root_at (object_in_text text)

-- the path is that of the manifest of the package at a place
abbrev pub has_manifest : List PackageRecord → Name → ℕ → Bool
has_manifest packages path at = unwrap_or (option_map (λ p. bytes_eq p.manifest_path path) (slice_get packages at)) false

-- the first member whose manifest has the path
abbrev pub current_of : MetadataRecord → Name → Option ℕ
current_of m path = find (has_manifest m.packages path) m.workspace_members
