-- The texts of notices about packages and their features.
use Rattle.std.specs.Prelude.{ℕ, List, ◌++◌, codes, Bool, if◌then◌else◌}
use Rattle.std.specs.List.{join_with_byte}
use Rattle.hack_base.specs.Names.{Name}
use Rattle.hack_base.specs.PathTexts.{parent_of}
use Rattle.hack_metadata.specs.Records.{PackageRecord}

-- about an excluded specification that matches no member
abbrev pub exclusion_text : Name → Name → List ℕ
exclusion_text root spec = codes "excluded package(s) `" ++ (spec ++ (codes "` not found in workspace `" ++ (root ++ codes "`")))

-- about a package name of `--allow-together` that no member has
abbrev pub lift_text : Name → Name → List ℕ
lift_text root owner = codes "package `" ++ (owner ++ (codes "` of --allow-together not found in workspace `" ++ (root ++ codes "`")))

-- about an excluded feature that the package doesn't have
abbrev pub feature_text : Name → Name → List ℕ
feature_text pkg name = codes "specified feature `" ++ (name ++ (codes "` not found in package `" ++ (pkg ++ codes "`")))

-- about an optional dependency that is asked for and that the package doesn't have
abbrev pub dependency_text : Name → Name → List ℕ
dependency_text pkg name = codes "specified optional dependency `" ++ (name ++ (codes "` not found in package `" ++ (pkg ++ codes "`")))

-- about a name of a package's own table that the package doesn't have
abbrev pub table_text : Name → Name → List ℕ
table_text pkg name = codes "feature `" ++ (name ++ (codes "` of [package.metadata.cargo-hack] not found in package `" ++ (pkg ++ codes "`")))

-- about a name of the workspace's table that no member has
abbrev pub workspace_text : Name → List ℕ
workspace_text name = codes "feature `" ++ (name ++ codes "` of [workspace.metadata.cargo-hack] not found in any member")

-- about tables that say nothing
abbrev pub no_rules_text : List ℕ
no_rules_text = codes "--package-rules found no rule: neither [workspace.metadata.cargo-hack] nor [package.metadata.cargo-hack] of a member has one"

-- about a group that isn't applied to the package
abbrev pub group_text : Name → List Name → List ℕ
group_text pkg names = codes "skipped applying group `" ++ (join_with_byte 44 names ++ (codes "` to " ++ pkg))

-- a package's name, under `--verbose` with the folder of its manifest
abbrev pub name_verbose : Bool → PackageRecord → List ℕ
name_verbose verbose p =
    if verbose then p.name ++ (codes " (" ++ (parent_of p.manifest_path ++ codes ")")) else p.name

-- about a private package that is skipped
abbrev pub private_text : Bool → PackageRecord → List ℕ
private_text verbose p = codes "skipped running on private package `" ++ name_verbose verbose p ++ codes "`"
