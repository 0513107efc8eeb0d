-- What the files hold after a question to cargo.
use Rattle.std.specs.Prelude.{◌⊎◌, ℕ, Result, Ok, Err}
use Rattle.hack_base.specs.Names.{Name}
use Rattle.hack_files.specs.Files.{Contents, KeepsAll, KeepsOthers}
use Rattle.hack_base.specs.Counters.{GrowsBy}
use Rattle.hack_metadata.specs.declared.ask.fault.AskFault.{AskFault}
use Rattle.hack_metadata.specs.declared.ask.fault.AskFault.TheVariants as fault

-- no call of the files failed, and each path holds what it held
abbrev pub Whole : Type 0 → Contents → Contents → ℕ → ℕ → Type 0
Whole tells old new before now = GrowsBy 0 before now × (tells → KeepsAll old new)

-- one call of the files failed, and each path but this one holds what it held
abbrev pub Spoilt : Name → Type 0 → Contents → Contents → ℕ → ℕ → Type 0
Spoilt path tells old new before now = GrowsBy 1 before now × (tells → KeepsOthers path old new)

-- what an error leaves: only where the files themselves failed, the path may hold something else
abbrev pub LeftBy : Name → Type 0 → Contents → Contents → ℕ → ℕ → AskFault → Type 0
LeftBy path tells old new before now fault.Memory = Whole tells old new before now ⊎ Spoilt path tells old new before now
LeftBy path tells old new before now (fault.Files e) = Spoilt path tells old new before now
LeftBy path tells old new before now _ = Whole tells old new before now

-- what a result leaves: each path as it was, or what its error leaves
abbrev pub LeavesFiles : {X : Type 0} → Name → Type 0 → Contents → Contents → ℕ → ℕ → Result X AskFault → Type 0
LeavesFiles path tells old new before now (Ok x) = Whole tells old new before now
LeavesFiles path tells old new before now (Err e) = LeftBy path tells old new before now e
