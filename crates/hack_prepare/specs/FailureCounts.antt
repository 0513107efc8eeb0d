-- How many calls of files have failed.
use Rattle.std.specs.Prelude.{◌⊎◌, ◌∷◌, [], ℕ, List, Result, Ok, Err}
use Rattle.hack_base.specs.Names.{Name}
use Rattle.hack_files.specs.declared.fs.FsFault.{FsFault}
use Rattle.hack_files.specs.declared.fs.FsFault.TheVariants as fs
use Rattle.hack_base.specs.Counters.{GrowsBy}
use Rattle.hack_prepare.specs.declared.fault.PrepareFault.{PrepareFault}
use Rattle.hack_prepare.specs.declared.fault.PrepareFault.TheVariants.{Memory, PrivateRoot, Files, Toml, InlineTarget, WorkspaceForm, PathText, ReadBack}

-- one call failed: the write of this path, which R says was refused
abbrev pub WriteFails : (List Name → Type 0) → ℕ → ℕ → Name → Type 0
WriteFails R before now path = GrowsBy 1 before now × R (path ∷ [])

-- a file that can't be read or written is one call that failed; one that was read and is no text is none
abbrev pub CountsFile : ℕ → ℕ → FsFault → Type 0
CountsFile before now (fs.Read p) = GrowsBy 1 before now
CountsFile before now (fs.Write p) = GrowsBy 1 before now
CountsFile before now (fs.NotText p) = GrowsBy 0 before now
CountsFile before now fs.Memory = ⊥

-- an error of a file counts so; out of memory is one failed call, or none; each other error is none
abbrev pub CountsFault : ℕ → ℕ → PrepareFault → Type 0
CountsFault before now Memory = GrowsBy 0 before now ⊎ GrowsBy 1 before now
CountsFault before now (Files f) = CountsFile before now f
CountsFault before now PrivateRoot = GrowsBy 0 before now
CountsFault before now (Toml p) = GrowsBy 0 before now
CountsFault before now (InlineTarget p) = GrowsBy 0 before now
CountsFault before now (WorkspaceForm p) = GrowsBy 0 before now
CountsFault before now (PathText p) = GrowsBy 0 before now
CountsFault before now (ReadBack p) = GrowsBy 0 before now

-- the result says how many calls failed: Ok says none, and an error what it counts
abbrev pub CountsCalls : {T : Type 0} → ℕ → ℕ → Result T PrepareFault → Type 0
CountsCalls before now (Ok _) = GrowsBy 0 before now
CountsCalls before now (Err e) = CountsFault before now e
