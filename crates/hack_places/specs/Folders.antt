-- Where the workspace of a call is.
use Rattle.std.specs.Prelude.{ℕ, zero, suc, Bool, false, not, ◌||◌, ◌&&◌, List, [], ◌∷◌, Option, Some, None, bytes_eq, codes, length, nat_eq, option_and_then, option_map, unwrap_or, if◌then◌else◌}
use Rattle.std.specs.List.{list_any, starts_with}
use Rattle.std.specs.Option.{option_map_or, option_or}
use Rattle.std.specs.Str.{is_utf8}
use Rattle.toml.specs.Data.{Data, string, Members, as_array, get_member}
use Rattle.toml.specs.Parse.{parse_document}
use Rattle.hack_base.specs.Names.{Name}
use Rattle.hack_base.specs.PathTexts.{join_of, normal_of, parent_of, under_of}
use Rattle.hack_files.specs.Files.{Contents}
use Rattle.hack_manifest.specs.Manifest.{table_at, texts_in}

-- ---- packages that a workspace leaves out

-- bytes that are text
abbrev pub text_in_bytes : Option (List ℕ) → Option (List ℕ)
text_in_bytes None = None
text_in_bytes (Some bytes) = if is_utf8 bytes then Some bytes else None

-- a path is that of a folder, or inside it
abbrev pub is_inside : Name → Name → Bool
is_inside folder path = bytes_eq path folder || not (bytes_eq (under_of path folder) path)

-- a text of a workspace's manifest, as a path from its folder, leads to a folder that the path is inside of
abbrev pub leads_to : Name → Name → Name → Bool
leads_to folder path text = is_inside (normal_of (join_of folder text)) path

-- the texts of the array at a key, if an array is there
abbrev pub texts_at : Name → Members → List Name
texts_at key fields = option_map_or texts_in (option_and_then as_array (get_member key fields)) []

-- the table `workspace` of a folder excludes a package's folder, and doesn't name it as a member's
abbrev pub fields_leave_out : Name → Name → Members → Bool
fields_leave_out folder pkg_dir fields =
    list_any (leads_to folder pkg_dir) (texts_at (codes "exclude") fields) && not (list_any (leads_to folder pkg_dir) (texts_at (codes "members") fields))

-- the same of the text of a manifest
abbrev pub text_leaves_out : Name → Name → List ℕ → Bool
text_leaves_out folder pkg_dir text =
    option_map_or (fields_leave_out folder pkg_dir) (option_and_then (table_at (codes "workspace")) (parse_document text)) false

-- ---- what a manifest says

-- what the manifest in a folder says of a package's workspace: that it is in this folder; that this folder's
-- leaves the package out; that it is in another; or nothing
pub data Saying : Type 0 where
  Here : Saying
  Out : Saying
  At : Name → Saying
  Nothing : Saying

-- the field `package.workspace` leads to the workspace's folder
abbrev pub field_says : Option Data → Saying
field_says None = Nothing
field_says (Some (string path)) = At path
field_says (Some _) = Nothing

-- what the table `package` says
abbrev pub package_says : Option Members → Saying
package_says None = Nothing
package_says (Some fields) = field_says (get_member (codes "workspace") fields)

-- a manifest with a table `workspace` is the workspace's own, unless that leaves the package out
abbrev pub workspace_says : Name → Name → Members → Saying
workspace_says folder pkg_dir fields = if fields_leave_out folder pkg_dir fields then Out else Here

abbrev pub tree_says : Name → Name → Members → Saying
tree_says folder pkg_dir tree =
    option_map_or (workspace_says folder pkg_dir) (table_at (codes "workspace") tree) (package_says (table_at (codes "package") tree))

-- these bytes stand somewhere in a text
abbrev pub has_part : List ℕ → List ℕ → Bool
has_part part [] = false
has_part part (b ∷ bs) = starts_with nat_eq (b ∷ bs) part || has_part part bs

-- bytes that are no text, or no TOML, are the workspace's own where they have the beginning of a table
-- `workspace` somewhere: a call that was killed while it wrote this manifest may have left a part of one
-- text before a part of another
abbrev pub torn_says : List ℕ → Saying
torn_says bytes = if has_part (codes "[workspace") bytes then Here else Nothing

-- what the text of a manifest says, by its tree, if it is TOML
abbrev pub document_says : Name → Name → List ℕ → Option Members → Saying
document_says folder pkg_dir text None = torn_says text
document_says folder pkg_dir text (Some tree) = tree_says folder pkg_dir tree

-- what the text of a manifest says
abbrev pub text_says : Name → Name → List ℕ → Saying
text_says folder pkg_dir text = document_says folder pkg_dir text (parse_document text)

-- what the bytes of a manifest say
abbrev pub bytes_say : Name → Name → List ℕ → Saying
bytes_say folder pkg_dir bytes = if is_utf8 bytes then text_says folder pkg_dir bytes else torn_says bytes

-- ---- the folders at or above one

-- the bytes of a folder's manifest, if it has one
abbrev pub manifest_in : Contents → Name → Option (List ℕ)
manifest_in held folder = held (join_of folder (codes "Cargo.toml"))

-- the folder itself, where it has a manifest
abbrev pub with_manifest : Contents → Name → Option Name
with_manifest held folder = option_map (λ bytes. folder) (manifest_in held folder)

-- what is said in a folder: nothing where it has no manifest
abbrev pub saying_in : Contents → Name → Name → Saying
saying_in held pkg_dir folder = option_map_or (bytes_say folder pkg_dir) (manifest_in held folder) Nothing

-- the workspace's folder, where this is said in a folder
abbrev pub folder_said : Name → Saying → Option Name
folder_said folder Here = Some folder
folder_said folder Out = None
folder_said folder (At path) = Some (normal_of (join_of folder path))
folder_said folder Nothing = None

-- the folder itself, where its workspace leaves the package out
abbrev pub folder_leaving : Name → Saying → Option Name
folder_leaving folder Here = None
folder_leaving folder Out = Some folder
folder_leaving folder (At path) = None
folder_leaving folder Nothing = None

-- the workspace's folder, where the manifest in a folder says it
abbrev pub said_in : Contents → Name → Name → Option Name
said_in held pkg_dir folder = folder_said folder (saying_in held pkg_dir folder)

-- a folder whose workspace leaves the package out
abbrev pub leaving_in : Contents → Name → Name → Option Name
leaving_in held pkg_dir folder = folder_leaving folder (saying_in held pkg_dir folder)

-- a folder, the one around it, and so on: n folders
abbrev pub above : ℕ → Name → List Name
above zero folder = []
above (suc n) folder = folder ∷ above n (parent_of folder)

-- the folders at or above one: each has a shorter path than those in it, so there are no more than
-- its path has bytes
abbrev pub folders : Name → List Name
folders folder = above (length folder) folder

-- the first answer that is one
abbrev pub first_some : {A B : Type 0} → (A → Option B) → List A → Option B
first_some f [] = None
first_some f (x ∷ xs) = option_or (f x) (first_some f xs)

-- the start: the folder of the manifest that is named, or else the current one
abbrev pub start_at : Option Name → Name → Name
start_at None dir = dir
start_at (Some path) dir = parent_of (normal_of (join_of dir path))

-- the package's folder: the nearest with a manifest, at or above the start; else the start
abbrev pub package_from : Contents → Name → Name
package_from held start = unwrap_or (first_some (with_manifest held) (folders start)) start

-- the folder of a package's workspace, as cargo has it: what the nearest manifest says that says one, at or
-- above the package's. Else the nearest whose workspace leaves the package out, since an edit may say so that
-- an interrupted call left; else the package's own
abbrev pub workspace_around : Contents → Name → Name
workspace_around held pkg_dir =
    unwrap_or (first_some (said_in held pkg_dir) (folders pkg_dir)) (unwrap_or (first_some (leaving_in held pkg_dir) (folders pkg_dir)) pkg_dir)

-- the workspace in a folder leaves out a package: that has a lockfile of its own
abbrev pub leaves_out : Contents → Name → Name → Bool
leaves_out held folder pkg_dir = option_map_or (text_leaves_out folder pkg_dir) (text_in_bytes (manifest_in held folder)) false
