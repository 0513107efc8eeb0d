-- The key paths of the pieces that edits change.
use Rattle.std.specs.Prelude.{ℕ, ◌==◌, ◌&&◌, ◌||◌, Bool, List, [], ◌∷◌, length, slice_get, unwrap_or, codes}
use Rattle.std.specs.Cmp.Lexicographic.{pointwise}
use Rattle.std.specs.Str.{bytes_eq}
use Rattle.hack_base.specs.Names.{Name}
use Rattle.hack_manifest.specs.Paths.{View, is_header}

abbrev pub dev_key : Name
dev_key = codes "dev-dependencies"

abbrev pub target_key : Name
target_key = codes "target"

abbrev pub workspace_key : Name
workspace_key = codes "workspace"

abbrev pub members_key : Name
members_key = codes "members"

abbrev pub exclude_key : Name
exclude_key = codes "exclude"

-- a name of a path, empty where there is none
abbrev pub path_name_at : List Name → ℕ → Name
path_name_at path i = unwrap_or (slice_get path i) []

-- the path begins with `dev-dependencies` or `target.X.dev-dependencies`
abbrev pub is_dev : List Name → Bool
is_dev path = bytes_eq (path_name_at path 0) dev_key || (bytes_eq (path_name_at path 0) target_key && bytes_eq (path_name_at path 2) dev_key)

-- the path is these two names
abbrev pub is_pair : Name → Name → List Name → Bool
is_pair a b path = length path == 2 && (bytes_eq (path_name_at path 0) a && bytes_eq (path_name_at path 1) b)

-- the piece is a header of just this name
abbrev pub is_header_of : Name → View → Bool
is_header_of name p = pointwise bytes_eq p.path (name ∷ []) && is_header p.text
