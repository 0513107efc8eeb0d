-- What the files hold after the questions of a call.
use Rattle.std.specs.Prelude.{◌≡◌, ℕ, List, Contains, length}
use Rattle.hack_base.specs.Names.{Name}
use Rattle.hack_files.specs.Files.{Contents}
use Rattle.hack_base.specs.Counters.{GrowsBy}

-- as many calls failed as there are paths in a list, and each path but these holds what it held
pub record LeavesFew (tells : Type 0) (old new : Contents) (before now : ℕ) : Type 0 where
  pub spoilt : List Name
  pub failed : GrowsBy (length spoilt) before now
  pub others : tells → (path : Name) → ¬ Contains spoilt path → new path ≡ old path
