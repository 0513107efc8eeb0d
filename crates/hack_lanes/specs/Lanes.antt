-- The rules by which commands are started ahead of their turn, told, and ended.
use Rattle.std.specs.Prelude.{ℕ, ◌≡◌, ◌==◌, ◌⊎◌, ◌<◌, ◌*◌, ◌||◌, ◌&&◌, Bool, true, false, not, List, [], ◌∷◌, ◌++◌, Option, Some, Contains, IfSome, IsSomeAnd, length, slice_get, slice_set}
use Rattle.std.specs.List.{count_by, list_all, list_any}
use Rattle.hack_process.specs.Calls.{Asked, Answer, Call}
use Rattle.hack_starts.specs.Events.{Event, Layout, Ran, Started, Ended, Told, Abandoned, Waited, calls_of}

-- a command that may be started, and its place
pub record Offer : Type 0 where
  pub place : ℕ
  pub asked : Asked

-- the place whose turn it is, if any, what may be started meanwhile, and in which lanes
pub record Turn : Type 0 where
  pub place : Option ℕ
  pub offers : List Offer
  pub layout : Layout

-- a command that was started and isn't told yet, its lane, and whether it was seen to have ended
pub record Pending : Type 0 where
  pub place : ℕ
  pub lane : ℕ
  pub asked : Asked
  pub over : Bool

-- the last place whose command was started, and what isn't told yet, in order
pub record State : Type 0 where
  pub last : Option ℕ
  pub pending : List Pending

-- no command of this place or a later one was started
abbrev pub IsNew : Option ℕ → ℕ → Type 0
IsNew last place = IfSome last (λ q. q < place)

-- the command isn't in a lane: it was seen to have ended, or has another one
abbrev pub leaves : ℕ → Pending → Bool
leaves lane p = p.over || not (p.lane == lane)

-- no command is in the lane
abbrev pub is_free : ℕ → List Pending → Bool
is_free lane pending = list_all (leaves lane) pending

-- a command of this place was started, and isn't told yet
abbrev pub is_pending : ℕ → List Pending → Bool
is_pending place pending = list_any (λ p. p.place == place) pending

-- the same, and it wasn't seen to have ended
abbrev pub is_running : ℕ → List Pending → Bool
is_running place pending = list_any (λ p. (p.place == place) && not p.over) pending

-- if it is a place's turn, its command isn't told yet: it wasn't started, or is pending
abbrev pub IsUntold : Option ℕ → State → Type 0
IsUntold turn state = IfSome turn (λ place. IsNew state.last place ⊎ (is_pending place state.pending ≡ true))

-- it is a place's turn, and its command was started and isn't told yet
abbrev pub IsAwaited : Option ℕ → State → Type 0
IsAwaited turn state = IsSomeAnd turn (λ place. is_pending place state.pending ≡ true)

-- the same, and it wasn't seen to have ended
abbrev pub IsWaitedFor : Option ℕ → State → Type 0
IsWaitedFor turn state = IsSomeAnd turn (λ place. is_running place state.pending ≡ true)

-- an offered command starts behind all others, in one of the lanes that no other is in, and is told
-- which lanes there are; none starts once the turn's own was told
pub record Starts (turn : Turn) (old : State) (place number : ℕ) (layout : Layout) (asked : Asked) (new : State) : Type 0 where
  pub offered : Contains turn.offers (record { place = place; asked = asked })
  pub behind : IsNew old.last place
  pub same : layout ≡ turn.layout
  pub within : number < turn.layout.count
  pub alone : is_free number old.pending ≡ true
  pub ahead : length old.pending < 2 * turn.layout.count
  pub untold : IsUntold turn.place old
  pub after : new ≡ record { last = Some place; pending = old.pending ++ record { place = place; lane = number; asked = asked; over = false } ∷ [] }

-- a command is seen to have ended
pub record Ends (old : State) (place : ℕ) (new : State) : Type 0 where
  pub index : ℕ
  pub which : Pending
  pub there : slice_get old.pending index ≡ Some which
  pub named : which.place ≡ place
  pub after : new ≡ record old { pending = slice_set old.pending index (record which { over = true }) }

-- the first command isn't pending any more
pub record Leaves (old : State) (place : ℕ) (asked : Asked) (new : State) : Type 0 where
  pub lane : ℕ
  pub over : Bool
  pub first : old.pending ≡ record { place = place; lane = lane; asked = asked; over = over } ∷ new.pending
  pub last : new.last ≡ old.last

-- a moment passes, while so many of the commands were seen to have ended, and so many run
abbrev pub Waits : State → (ended running : ℕ) → State → Type 0
Waits old ended running new =
    (ended ≡ count_by (λ p. p.over) old.pending) × (running ≡ count_by (λ p. not p.over) old.pending) × (new ≡ old)

-- Which event may come next, and what is so after it. A command is run to its end at once only where
-- none is pending, and at a turn only where the turn's own wasn't started before. Only the turn's
-- own command is told, only while it is pending one is seen to have ended, and only until it was seen to
-- have ended itself a moment passes.
abbrev pub Moves : Turn → State → Event → State → Type 0
Moves turn old (Ran asked answer) new = (old.pending ≡ []) × IfSome turn.place (IsNew old.last) × (new ≡ old)
Moves turn old (Started place number layout asked) new = Starts turn old place number layout asked new
Moves turn old (Ended place) new = IsAwaited turn.place old × Ends old place new
Moves turn old (Told place asked answer) new = (turn.place ≡ Some place) × Leaves old place asked new
Moves turn old (Abandoned place) new = (asked : Asked) × Leaves old place asked new
Moves turn old (Waited ended running) new = IsWaitedFor turn.place old × Waits old ended running new

-- these events, each by the rules, lead from a state to another
abbrev pub Follows : Turn → State → List Event → State → Type 0
Follows turn old [] new = new ≡ old
Follows turn old (e ∷ es) new = (mid : State) × Moves turn old e mid × Follows turn mid es new

-- the lanes at a time, and who starts their commands
pub record Scene (S : Type 0) : Type 0 where
  pub turn : Turn
  pub state : State
  pub starts : S

-- by the rules of a turn something happened, and these calls with their answers came of it
pub record Goes {S : Type 0} (did : List Event → S → S → Type 0) (told : List Call) (old new : Scene S) : Type 0 where
  pub events : List Event
  pub did_them : did events old.starts new.starts
  pub follows : Follows old.turn old.state events new.state
  pub calls : calls_of events ≡ told
  pub turn : new.turn ≡ old.turn

-- a call was made, with some answer, or none was
abbrev pub MayGo : {S : Type 0} → (List Event → S → S → Type 0) → Asked → Scene S → Scene S → Type 0
MayGo did asked old new = Goes did [] old new ⊎ ((answer : Answer) × Goes did (record { asked = asked; answer = answer } ∷ []) old new)
