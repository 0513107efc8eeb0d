-- The repository that a folder is in.
use Rattle.std.specs.Prelude.{ℕ, Bool, List, Option, Some, None, codes, drop, is_some, length, nat_eq, option_and_then, option_map, take, if◌then◌else◌}
use Rattle.std.specs.Cmp.Lexicographic.{pointwise}
use Rattle.std.specs.Str.{trim_end}
use Rattle.hack_base.specs.Names.{Name}
use Rattle.hack_base.specs.PathTexts.{join_of, normal_of}
use Rattle.hack_files.specs.Files.{Contents}
use Rattle.hack_places.specs.Folders.{above, first_some, text_in_bytes}

-- a repository: its topmost folder, and its own one
pub record RepositoryAt : Type 0 where
  pub top : Name
  pub own : Name

-- a folder has a file `HEAD`, as the own folder of each repository has
abbrev pub has_head : Contents → Name → Bool
has_head held folder = is_some (held (join_of folder (codes "HEAD")))

-- a path is a folder's, which has itself as `.`
abbrev pub is_folder : Contents → Name → Bool
is_folder held path = is_some (held (join_of path (codes ".")))

-- this folder, if it is a repository's own one
abbrev pub if_own : Contents → Name → Option Name
if_own held folder = if has_head held folder then Some folder else None

-- what follows a front of bytes that begin so
abbrev pub behind : List ℕ → List ℕ → Option (List ℕ)
behind front bytes = if pointwise nat_eq (take (length front) bytes) front then Some (drop (length front) bytes) else None

-- the path in the bytes of a file `.git`: the text after `gitdir: `, without the end of its line
abbrev pub link_in : List ℕ → Option Name
link_in bytes = option_map trim_end (option_and_then (λ rest. text_in_bytes (Some rest)) (behind (codes "gitdir: ") bytes))

-- where that leads to from its folder
abbrev pub linked_at : Contents → Name → Name → Option Name
linked_at held folder path = if_own held (normal_of (join_of folder path))

abbrev pub linked_by : Contents → Name → List ℕ → Option Name
linked_by held folder bytes = option_and_then (linked_at held folder) (link_in bytes)

-- the folder that a file `.git` names, if there is that file and no folder
abbrev pub named_at : Contents → Name → Name → Option Name
named_at held folder git = if is_folder held git then None else option_and_then (linked_by held folder) (held git)

-- the own folder of a repository, where this is its `.git`: that itself, or what the file names
abbrev pub own_at : Contents → Name → Name → Option Name
own_at held folder git = if has_head held git then Some git else named_at held folder git

-- the own folder of the repository whose topmost folder this is
abbrev pub own_folder_in : Contents → Name → Option Name
own_folder_in held folder = own_at held folder (join_of folder (codes ".git"))

-- the repository whose topmost folder this is
abbrev pub repository_in : Contents → Name → Option RepositoryAt
repository_in held folder = option_map (λ own. record { top = folder; own = own }) (own_folder_in held folder)

-- the nearest repository among so many folders, from this one up
abbrev pub repository_above : Contents → ℕ → Name → Option RepositoryAt
repository_above held n folder = first_some (repository_in held) (above n folder)

-- the repository that a folder is in
abbrev pub repository_around : Contents → Name → Option RepositoryAt
repository_around held folder = repository_above held (length folder) folder
