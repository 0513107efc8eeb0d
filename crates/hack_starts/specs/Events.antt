-- What happens to commands that may be started ahead of their turn, in order.
use Rattle.std.specs.Prelude.{ℕ, List, [], ◌∷◌}
use Rattle.hack_base.specs.Names.{Name}
use Rattle.hack_process.specs.Calls.{Asked, Answer, Call}

-- how many lanes there are, and the folder that commands in the first one build into
pub record Layout : Type 0 where
  pub count : ℕ
  pub folder : Name

-- A command is run to its end at once. Or it has a place of a plan: it is started in the lane of a
-- number, told which lanes there are; it is seen to have ended, which leaves the lane; it is waited
-- for at its turn, with this answer; or it is ended before that, and has no answer. Or a moment
-- passes, while of those that were started so many have ended and so many run.
pub data Event : Type 0 where
  Ran : Asked → Answer → Event
  Started : (place number : ℕ) → Layout → Asked → Event
  Ended : (place : ℕ) → Event
  Told : (place : ℕ) → Asked → Answer → Event
  Abandoned : (place : ℕ) → Event
  Waited : (ended running : ℕ) → Event

-- the calls whose answers came of some events, in order
abbrev pub calls_of : List Event → List Call
calls_of [] = []
calls_of (Ran asked answer ∷ es) = record { asked = asked; answer = answer } ∷ calls_of es
calls_of (Started place number layout asked ∷ es) = calls_of es
calls_of (Ended place ∷ es) = calls_of es
calls_of (Told place asked answer ∷ es) = record { asked = asked; answer = answer } ∷ calls_of es
calls_of (Abandoned place ∷ es) = calls_of es
calls_of (Waited ended running ∷ es) = calls_of es
