-- What a call does with locks.
use Rattle.std.specs.Prelude.{◌++◌, ◌∷◌, [], Bool, true, false, List}
use Rattle.hack_base.specs.Names.{Name}
use Rattle.hack_recovery.specs.declared.locks.Holder.{Holder}
use Rattle.hack_recovery.specs.declared.locks.Holder.TheVariants.{Ours, Theirs, Unknown}

-- the lock of this folder was asked for, and this was the answer
pub record Taking : Type 0 where
  pub folder : Name
  pub holder : Holder

-- what was asked for so far, in order, and whether this call has a lock now
pub record LocksView : Type 0 where
  pub takings : List Taking
  pub is_held : Bool

-- whether this call has a lock after an answer
abbrev pub has_lock_after : Holder → Bool → Bool
has_lock_after Ours before = true
has_lock_after Theirs before = before
has_lock_after Unknown before = before

-- after the lock of a folder was asked for, with this answer
abbrev pub after_asking : Name → Holder → LocksView → LocksView
after_asking folder holder locks = record { takings = locks.takings ++ record { folder = folder; holder = holder } ∷ []; is_held = has_lock_after holder locks.is_held }

-- after what was taken was let go
abbrev pub after_release : LocksView → LocksView
after_release locks = record locks { is_held = false }
