-- The runs that are handed out.
use Rattle.std.specs.Prelude.{ℕ, ◌≡◌, ◌⊎◌, ◌<◌, ◌↔◌, Bool, true, List, [], ◌++◌, map, AllPairs, Contains, Option, Some, None}
use Rattle.std.specs.List.{filter_map, list_any}
use Rattle.hack_partition.specs.declared.partition.Partition.{Partition}
use Rattle.hack_session.specs.declared.step.Step.{Step}
use Rattle.hack_session.specs.declared.step.Step.TheVariants.{Run}
use Rattle.hack_session.specs.Histories.{Course, IsHistory, next_of, stops, step_of}
use Rattle.hack_session.specs.Schedules.{IsChosen, IsSchedule}

-- a session was driven to its end: its schedule is that of the chosen piece; what was handed out is
-- a front of it with its outcomes, in which no element but the last stops, and there is no next step
pub record IsDriven (piece : Option Partition) (keep_going : Bool) (t : Course) : Type 0 where
  pub schedule : IsSchedule piece t.plan t.schedule
  pub goes_on : t.keep_going ≡ keep_going
  pub history : IsHistory t
  pub complete : next_of t ≡ None

-- the places of the chosen piece, in order, each once
pub record ArePiece (piece : Option Partition) (total : ℕ) (places : List ℕ) : Type 0 where
  pub increasing : AllPairs (λ a b. a < b) places
  pub exact : (place : ℕ) → Contains places place ↔ ((place < total) × IsChosen piece total place)

-- the place that a step runs
abbrev pub run_place : Step → Option ℕ
run_place (Run place) = Some place
run_place step = None

-- the places that steps run, in order
abbrev pub run_places_of : List Step → List ℕ
run_places_of steps = filter_map run_place steps

-- the runs handed out are the first of the chosen piece, in order, each once, and all of them unless a step stopped
pub record HandsOut (piece : Option Partition) (total : ℕ) (t : Course) : Type 0 where
  pub places : List ℕ
  pub left : List ℕ
  pub chosen : ArePiece piece total places
  pub in_order : places ≡ run_places_of (map step_of t.handed) ++ left
  pub until : (list_any (stops t.keep_going) t.handed ≡ true) ⊎ (left ≡ [])
