-- What may be started at the step of a session.
use Rattle.std.specs.Prelude.{ℕ, ◌≡◌, ◌≤◌, ◌<◌, List, [], ◌∷◌, Option, Some, None, All, Contains, length, false, true, option_map, slice_get}
use Rattle.hack_process.specs.Calls.{Call}
use Rattle.hack_process.specs.Commands.{asked_of}
use Rattle.hack_partition.specs.declared.partition.Partition.{Partition}
use Rattle.hack_plan.specs.declared.parts.PlanVersion.{PlanVersion}
use Rattle.hack_plan.specs.Commands.{command_of_entry}
use Rattle.hack_plan.specs.View.{PlanView}
use Rattle.hack_session.specs.declared.step.Step.{Step}
use Rattle.hack_session.specs.declared.step.Step.TheVariants.{Run}
use Rattle.hack_session.specs.declared.step.Handed.{Handed}
use Rattle.hack_session.specs.Schedules.{in_piece}
use Rattle.hack_starts.specs.Events.{Event}
use Rattle.hack_lanes.specs.Lanes.{Offer, Turn, Scene, Goes}

-- a version has the place
abbrev pub HasPlace : PlanVersion → ℕ → Type 0
HasPlace v place = (v.first ≤ place) × (place < v.end)

-- both places are of one version
abbrev pub IsWithin : PlanView → ℕ → ℕ → Type 0
IsWithin plan place other = (v : PlanVersion) × Contains plan.versions v × HasPlace v place × HasPlace v other

-- A command that may be started at the turn of a place: that of the place, or of one behind it, of
-- the same version and in the chosen piece.
pub record MayStart (piece : Option Partition) (plan : PlanView) (place : ℕ) (offer : Offer) : Type 0 where
  pub behind : place ≤ offer.place
  pub within : IsWithin plan place offer.place
  pub chosen : in_piece piece (length plan.entries) offer.place ≡ true
  pub asked : option_map (λ entry. asked_of false (command_of_entry plan entry)) (slice_get plan.entries offer.place) ≡ Some offer.asked

abbrev pub AreOffers : Option Partition → PlanView → ℕ → List Offer → Type 0
AreOffers piece plan place offers = All (MayStart piece plan place) offers

-- nothing is started ahead
abbrev pub IsSerial : Turn → Type 0
IsSerial turn = (turn.place ≡ None) × (turn.offers ≡ [])

-- the turn at a step: where several commands go at once a run has its own; else nothing is started ahead
abbrev pub IsTurnFor : Option Partition → PlanView → Step → Turn → Type 0
IsTurnFor piece plan (Run place) turn =
    (turn.layout.count ≤ 1 → IsSerial turn) × (1 < turn.layout.count → (turn.place ≡ Some place) × AreOffers piece plan place turn.offers)
IsTurnFor piece plan step turn = IsSerial turn

-- only the turn is another, with the same lanes
abbrev pub IsAtTurn : {S : Type 0} → Scene S → Scene S → Type 0
IsAtTurn old new = (new ≡ record old { turn = new.turn }) × (new.turn.layout ≡ old.turn.layout)

-- at a turn that fits, with the same lanes, something was done by their rules; then the turn is over
pub record RunsAt {S : Type 0} (did : List Event → S → S → Type 0) (Fits : Turn → Type 0) (old new : Scene S) : Type 0 where
  pub turn : Turn
  pub fits : Fits turn
  pub layout : turn.layout ≡ old.turn.layout
  pub told : List Call
  pub goes : Goes did told (record old { turn = turn }) (record new { turn = turn })
  pub over : new.turn ≡ record turn { place = None; offers = [] }

-- a step did something at its turn
abbrev pub RunsStep : {S : Type 0} → (List Event → S → S → Type 0) → Option Partition → PlanView → Step → Scene S → Scene S → Type 0
RunsStep did piece plan step old new = RunsAt did (IsTurnFor piece plan step) old new

-- these steps did so, one after the other
abbrev pub RunsAll : {S : Type 0} → (List Event → S → S → Type 0) → Option Partition → PlanView → List Handed → Scene S → Scene S → Type 0
RunsAll did piece plan [] old new = new ≡ old
RunsAll {S} did piece plan (h ∷ hs) old new = (mid : Scene S) × RunsStep did piece plan h.step old mid × RunsAll did piece plan hs mid new

-- these steps did something, one after the other, and nothing was started ahead
abbrev pub RunsSerially : {S : Type 0} → (List Event → S → S → Type 0) → List Handed → Scene S → Scene S → Type 0
RunsSerially did [] old new = new ≡ old
RunsSerially {S} did (h ∷ hs) old new = (mid : Scene S) × RunsAt did IsSerial old mid × RunsSerially did hs mid new
