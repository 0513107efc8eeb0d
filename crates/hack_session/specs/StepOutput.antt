-- What steps say, on `out` and on `err`.
use Rattle.std.specs.Prelude.{◌≡◌, ℕ, zero, suc, Bool, true, List, [], ◌∷◌, codes, if◌then◌else◌}
use Rattle.hack_base.specs.Streams.{Stream, WritesText, stream_of}
use Rattle.hack_base.specs.declared.writes.Sink.{Ghosts as Taking}
use Rattle.hack_term.specs.declared.log_group.LogGroup.{LogGroup}
use Rattle.hack_term.specs.declared.log_group.LogGroup.TheVariants.{None as Ungrouped, GithubActions}
use Rattle.hack_term.specs.declared.term.Coloring.{Coloring}
use Rattle.hack_term.specs.declared.term.Term.{Term}
use Rattle.hack_term.specs.Groups.{opening_line, message_line, closing_line, on_screen}
use Rattle.hack_term.specs.Lines.{info_line}
use Rattle.hack_plan.specs.declared.places.PlanEntry.{PlanEntry}
use Rattle.hack_process.specs.CommandTexts.{Command, text_of}
use Rattle.hack_plan.specs.View.{PlanView}
use Rattle.hack_session.specs.Statuses.{place_status, running_text}
use Rattle.hack_session.specs.declared.screen.Screen.{Screen}

-- ---- texts

-- a text, and the stream on which it is said
pub data Said : Type 0 where
  OnOut : List ℕ → Said
  OnErr : List ℕ → Said

-- how steps are printed: lines are grouped, the words that begin them are coloured, and commands
-- are shown in full, cleanings too
pub record Manner : Type 0 where
  pub group : LogGroup
  pub coloring : Coloring
  pub verbose : Bool

-- the manner of a terminal
abbrev pub manner_of : LogGroup → Term → Manner
manner_of group term = record { group = group; coloring = term.coloring; verbose = term.verbose }

-- the manner of a screen
abbrev pub manner_on : {O E : Type 0} → Screen O E → Manner
manner_on screen = manner_of screen.log_group screen.term.now

-- an empty line before each place but the first, where lines aren't grouped
abbrev pub space_said : LogGroup → ℕ → List Said
space_said Ungrouped zero = []
space_said Ungrouped (suc place) = OnErr (codes "\n") ∷ []
space_said GithubActions place = []

-- the line that opens a group; where lines aren't grouped, just a line with its text
abbrev pub opening_said : Manner → List ℕ → Said
opening_said m text = on_screen m.group (OnOut (opening_line m.group text)) (OnErr (message_line m.group m.coloring text))

-- the line that ends a group, where there is one
abbrev pub end_said : LogGroup → List Said
end_said Ungrouped = []
end_said GithubActions = OnOut closing_line ∷ []

-- a group from its text to its end, or just a line with the text
abbrev pub group_said : Manner → List ℕ → List Said
group_said m text = opening_said m text ∷ end_said m.group

-- the line on a cleaning, where those are shown
abbrev pub cleaning_said : Manner → List ℕ → Command → List Said
cleaning_said m dir command = if m.verbose then OnErr (info_line m.coloring (running_text (text_of true dir command))) ∷ [] else []

-- the status of a place: what is done there, its number, and the number of all
abbrev pub status_said : Manner → List ℕ → PlanView → ℕ → PlanEntry → List Said
status_said m verb plan place q = group_said m (place_status verb m.verbose plan place q)

-- the group in which a toolchain is added
abbrev pub addition_said : Manner → List ℕ → Command → List Said
addition_said m dir command = group_said m (running_text (text_of m.verbose dir command))

-- ---- where they are written

-- the two streams
pub record Streams : Type 0 where
  pub out : Stream
  pub err : Stream

-- a text was written on its stream, and nothing on the other
abbrev pub Says : Said → Streams → Streams → Type 0
Says (OnOut text) old new = WritesText text old.out new.out × (new.err ≡ old.err)
Says (OnErr text) old new = WritesText text old.err new.err × (new.out ≡ old.out)

-- just these texts were written, one after the other
abbrev pub SaysAll : List Said → Streams → Streams → Type 0
SaysAll [] old new = new ≡ old
SaysAll (text ∷ more) old new = (mid : Streams) × Says text old mid × SaysAll more mid new

-- two streams, by what their types tell of them
abbrev pub streams : {O E : Type 0} → Taking O → Taking E → O → E → Streams
streams o e out err = record { out = stream_of o out; err = stream_of e err }

-- the streams of a screen
abbrev pub streams_of : {O E : Type 0} → Taking O → Taking E → Screen O E → Streams
streams_of o e screen = streams o e screen.out.now screen.err.now

-- just these texts were written on a screen
abbrev pub SaysOn : {O E : Type 0} → Taking O → Taking E → List Said → Screen O E → Screen O E → Type 0
SaysOn o e texts old new = SaysAll texts (streams_of o e old) (streams_of o e new)

-- a screen is handed on: its streams are still the same, and so is its manner
pub record IsSameScreen {O E : Type 0} (old new : Screen O E) : Type 0 where
  pub out : new.out.ghost_name ≡ old.out.ghost_name
  pub err : new.err.ghost_name ≡ old.err.ghost_name
  pub manner : manner_on new ≡ manner_on old
