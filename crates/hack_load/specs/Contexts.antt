-- All that is loaded for one call, as callers see it.
use Rattle.std.specs.Prelude.{ℕ, ◌≡◌, ◌<◌, ◌==◌, ◌++◌, Bool, true, false, not, List, Option, Some, None, codes, length, Contains, IfSome, nat_lt, option_map, option_and_then, slice_get, if◌then◌else◌}
use Rattle.std.specs.Option.{option_map_or}
use Rattle.std.specs.List.{position_or_len}
use Rattle.hack_base.specs.Names.{Name, optional_text}
use Rattle.hack_words.specs.declared.cli.args.Args.{Args}
use Rattle.hack_base.specs.PathTexts.{parent_of}
use Rattle.hack_metadata.specs.Records.{PackageRecord, MetadataRecord}
use Rattle.hack_manifest.specs.declared.manifest.Manifest.{Manifest}
use Rattle.hack_load.specs.declared.features.Features.{Features}

-- all that is loaded for one call; a package is known by its place in the metadata
pub record ContextRecord : Type 0 where
  -- what the arguments of the call ask for
  pub args : Args
  pub metadata : MetadataRecord
  -- one for each member of the workspace, in their order
  pub manifests : List Manifest
  pub features : List Features
  -- the program to run as cargo, and its own minor version, 0 where that isn't known
  pub cargo : Name
  pub cargo_minor : ℕ
  pub current_dir : Name
  -- the current package
  pub current_package : Option ℕ

-- the place of a member among the members
abbrev pub place_among : List ℕ → ℕ → ℕ
place_among members id = position_or_len (λ m. m == id) members

-- a package is one of the members, where there is one
abbrev pub is_member_or_none : List ℕ → Option ℕ → Bool
is_member_or_none members None = true
is_member_or_none members (Some id) = nat_lt (place_among members id) (length members)

-- the package with an id
abbrev pub package_at : ContextRecord → ℕ → Option PackageRecord
package_at cx id = slice_get cx.metadata.packages id

-- the manifest of a member
abbrev pub manifest_at : ContextRecord → ℕ → Option Manifest
manifest_at cx id = slice_get cx.manifests (place_among cx.metadata.workspace_members id)

-- the candidates of a member
abbrev pub features_at : ContextRecord → ℕ → Option Features
features_at cx id = slice_get cx.features (place_among cx.metadata.workspace_members id)

-- each member is a package, and has a manifest and candidates, and the current package is a member
pub record IsWholeContext (cx : ContextRecord) : Type 0 where
  pub packages : (id : ℕ) → Contains cx.metadata.workspace_members id → id < length cx.metadata.packages
  pub manifests : length cx.manifests ≡ length cx.metadata.workspace_members
  pub features : length cx.features ≡ length cx.metadata.workspace_members
  pub current : IfSome cx.current_package (Contains cx.metadata.workspace_members)

-- what a manifest says of publishing
abbrev pub manifest_publish : Manifest → Option Bool
manifest_publish m = m.package.publish

-- the `rust-version` in a manifest
abbrev pub manifest_rust_version : Manifest → Option Name
manifest_rust_version m = option_and_then (λ v. optional_text v) m.package.rust_version

-- what is known of publishing: cargo reports it from 1.39 on; for an older one the manifest says it
abbrev pub publish_at : ContextRecord → ℕ → Option Bool
publish_at cx id = if nat_lt cx.metadata.cargo_version 39 then option_and_then manifest_publish (manifest_at cx id) else option_map (λ p. p.publish) (package_at cx id)

-- a member may not be published: this is stated, and denied
abbrev pub is_private_at : ContextRecord → ℕ → Bool
is_private_at cx id = option_map_or not (publish_at cx id) false

-- a member's `rust-version`: cargo reports it from 1.58 on; for an older one the manifest says it
abbrev pub rust_version_at : ContextRecord → ℕ → Option Name
rust_version_at cx id = if nat_lt cx.metadata.cargo_version 58 then option_and_then manifest_rust_version (manifest_at cx id) else option_and_then (λ p. p.rust_version) (package_at cx id)

-- a name, with a folder after it where one is shown
abbrev pub shown_name : Name → Option Name → Name
shown_name name None = name
shown_name name (Some folder) = name ++ (codes " (" ++ (folder ++ codes ")"))

-- a package's name; in a verbose call the folder of its manifest follows
abbrev pub verbose_name : Bool → PackageRecord → Name
verbose_name verbose p = if verbose then shown_name p.name (Some (parent_of p.manifest_path)) else shown_name p.name None
