-- Why a path can't be read or written.
use Rattle.std.specs.Prelude.{◌≡◌, string_bytes}
use Rattle.hack_base.specs.Names.{Name}
use Rattle.hack_files.specs.declared.fs.FsFault.{FsFault}
use Rattle.hack_files.specs.declared.fs.FsFault.TheVariants as fs

-- the path can't be read
abbrev pub IsUnread : Name → FsFault → Type 0
IsUnread path (fs.Read p) = string_bytes p ≡ path
IsUnread path _ = ⊥

-- the path can't be written
abbrev pub IsUnwritten : Name → FsFault → Type 0
IsUnwritten path (fs.Write p) = string_bytes p ≡ path
IsUnwritten path _ = ⊥
