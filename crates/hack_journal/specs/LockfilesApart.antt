-- Files whose lockfiles are kept apart from all others.
use Rattle.std.specs.Prelude.{◌≡◌, ℕ, Bool, IsTrue, ◌||◌, List, codes, nat_eq, bytes_eq, if◌then◌else◌}
use Rattle.std.specs.List.{ends_with}
use Rattle.hack_files.specs.Files.{Contents}

-- a path is a lockfile's: its last part is `Cargo.lock`
abbrev pub is_lockfile : List ℕ → Bool
is_lockfile path = bytes_eq path (codes "Cargo.lock") || ends_with nat_eq path (codes "/Cargo.lock")

-- what the paths hold: lockfiles what the second holds, and all others what the first holds
abbrev pub apart : Contents → Contents → Contents
apart files lockfiles q = if is_lockfile q then lockfiles q else files q

-- lockfiles hold what they held
abbrev pub KeepsLockfiles : Contents → Contents → Type 0
KeepsLockfiles old new = (q : List ℕ) → IsTrue (is_lockfile q) → new q ≡ old q

-- all paths but lockfiles hold what they held
abbrev pub KeepsOtherFiles : Contents → Contents → Type 0
KeepsOtherFiles old new = (q : List ℕ) → ¬ IsTrue (is_lockfile q) → new q ≡ old q
