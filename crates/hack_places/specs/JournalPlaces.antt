-- Where the journal of a workspace lies.
use Rattle.std.specs.Prelude.{ℕ, ◌++◌, ◌==◌, ◌&&◌, ◌||◌, Bool, not, Option, Some, None, bytes_eq, codes, length, map, nat_lt, option_map, if◌then◌else◌}
use Rattle.std.specs.List.{list_all}
use Rattle.hack_base.specs.Names.{Name}
use Rattle.hack_base.specs.PathTexts.{is_slash, join_of, under_of}
use Rattle.hack_files.specs.Files.{Contents}
use Rattle.hack_places.specs.Folders.{text_in_bytes}
use Rattle.hack_places.specs.Repositories.{RepositoryAt, repository_around}

-- a journal beside the workspace's manifest
abbrev pub journal_beside : Name → Name
journal_beside folder = join_of folder (codes ".cargo-hack-journal")

-- ---- in a repository

abbrev pub percent_for_slash : ℕ → ℕ
percent_for_slash b = if is_slash b then 37 else b

-- a byte is neither `%` nor `~`
abbrev pub is_plain_byte : ℕ → Bool
is_plain_byte b = not (b == 37) && not (b == 126)

-- a path with each slash turned into `%`
abbrev pub workspace_name : Name → Option Name
workspace_name path = text_in_bytes (Some (map percent_for_slash path))

-- the name of the journal of a workspace at this path in its repository: none where the path is
-- long, or has a mark of such names
abbrev pub journal_name : Name → Option Name
journal_name path = if nat_lt 200 (length path) || not (list_all is_plain_byte path) then None else option_map (λ name. codes "cargo-hack-journal-" ++ name) (workspace_name path)

-- the journal in the repository's own folder, if the workspace has such a name there
abbrev pub journal_named : Name → RepositoryAt → Option Name → Name
journal_named folder r None = journal_beside folder
journal_named folder r (Some name) = join_of r.own name

-- the journal of a folder that is in this repository
abbrev pub journal_within : Name → RepositoryAt → Name
journal_within folder r =
    if bytes_eq folder r.top then join_of r.own (codes "cargo-hack-journal") else journal_named folder r (journal_name (under_of folder r.top))

-- the journal of a folder that is in this repository, or in none
abbrev pub journal_by : Name → Option RepositoryAt → Name
journal_by folder None = journal_beside folder
journal_by folder (Some r) = journal_within folder r

-- the journal of a workspace's folder
abbrev pub journal_of : Contents → Name → Name
journal_of held folder = journal_by folder (repository_around held folder)

-- the copy of the lockfile that is kept with a journal
abbrev pub lockfile_copy : Name → Name
lockfile_copy journal = journal ++ codes "~lock"
