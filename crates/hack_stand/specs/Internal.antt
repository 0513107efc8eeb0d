-- What only private functions of the crate promise each other.
use Rattle.std.specs.Prelude.{◌≡◌, ℕ, List, string_bytes}
use Rattle.hack_base.specs.Counters.{GrowsBy}
use Rattle.hack_files.specs.declared.fs.FsFault.{FsFault}
use Rattle.hack_files.specs.declared.fs.FsFault.TheVariants.{Read, Write, NotText, Memory}

-- a file can't be read, which was counted, or memory ran out
abbrev pub IsFailedRead : List ℕ → ℕ → ℕ → FsFault → Type 0
IsFailedRead path before now (Read p) = (string_bytes p ≡ path) × GrowsBy 1 before now
IsFailedRead path before now (Write p) = ⊥
IsFailedRead path before now (NotText p) = ⊥
IsFailedRead path before now Memory = Unit {0}
