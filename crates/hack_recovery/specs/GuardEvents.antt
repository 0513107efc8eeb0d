-- What a call does with guards.
use Rattle.std.specs.Prelude.{◌++◌, ◌∷◌, [], Bool, List, None, Option, Some, false, if◌then◌else◌, ℕ}
use Rattle.hack_base.specs.Names.{Name}

-- a guard of this folder was asked for, and whether it came
pub record GuardAsked : Type 0 where
  pub folder : Name
  pub watches : Bool

-- what was asked for so far, in order, whether a guard watches now, and the exit status that the
-- last one was left with
pub record GuardsView : Type 0 where
  pub starts : List GuardAsked
  pub is_watching : Bool
  pub status : Option ℕ

-- after a guard of a folder was asked for, with this answer
abbrev pub after_start : Name → Bool → GuardsView → GuardsView
after_start folder watches guards = record { starts = guards.starts ++ record { folder = folder; watches = watches } ∷ []; is_watching = watches; status = None }

-- after the guard, if one watches, was left with this exit status of the call
abbrev pub after_leave : ℕ → GuardsView → GuardsView
after_leave status guards = if guards.is_watching then record guards { is_watching = false; status = Some status } else guards
