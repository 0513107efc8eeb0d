-- What is said of the small patterns that only failed runs show.
use Rattle.std.specs.Prelude.{ℕ, ◌≡◌, ◌⊎◌, ◌==◌, ◌++◌, [], ◌∷◌, Bool, List, MatchOption, None, Option, Some, false, filter, map, not, if◌then◌else◌}
use Rattle.std.specs.List.{AllZip, flat_map, list_any, slice_index_or}
use Rattle.std.specs.Option.{option_map_or}
use Rattle.hack_base.specs.Notes.{Note}
use Rattle.hack_base.specs.Streams.{Stream, WritesAll}
use Rattle.hack_load.specs.Contexts.{ContextRecord, package_at}
use Rattle.hack_load.specs.declared.features.Features.{Features}
use Rattle.hack_planner.specs.Calls.{rules_at}
use Rattle.hack_planner.specs.ContextMembers.{AreChosen, IsChoiceFault}
use Rattle.hack_planner.specs.declared.fault.PackagesFault.{PackagesFault}
use Rattle.hack_session.specs.Histories.{Course}
use Rattle.hack_session.specs.SuspectNotes.{suspect_notes_on}
use Rattle.hack_session.specs.Suspects.{AreExplained, ExplainedView}
use Rattle.hack_term.specs.Lines.{info_line}
use Rattle.hack_term.specs.declared.term.Coloring.{Coloring}

-- the strength that the rules of a package have, whatever its features
abbrev pub IsStrengthAt : ContextRecord → ℕ → Option ℕ → Type 0
IsStrengthAt cx id strength =
    MatchOption (package_at cx id) (strength ≡ None) (λ p. (features : Features) → strength ≡ (rules_at cx p features).strength)

-- the strengths of the packages that the call runs on, in order; none where these aren't known
abbrev pub AreStrengths : ContextRecord → List (Option ℕ) → Type 0
AreStrengths cx strengths =
    ((ids : List ℕ) × AreChosen cx ids × AllZip (IsStrengthAt cx) ids strengths)
    ⊎ ((e : PackagesFault) × IsChoiceFault cx e × (strengths ≡ []))

-- the strengths that there are, each once, in the order in which they first come
abbrev pub each_strength : List (Option ℕ) → List ℕ
each_strength [] = []
each_strength (None ∷ more) = each_strength more
each_strength (Some strength ∷ more) = strength ∷ filter (λ other. not (other == strength)) (each_strength more)

-- a strength added, if there is one that isn't among these
abbrev pub with_strength : Option ℕ → List ℕ → List ℕ
with_strength None each = each
with_strength (Some strength) each = if list_any (λ other. other == strength) each then each else (each ++ strength ∷ [])

-- a package of these has this strength
abbrev pub has_strength : List (Option ℕ) → ℕ → ℕ → Bool
has_strength strengths strength member = option_map_or (λ own. own == strength) (slice_index_or strengths member None) false

-- what is explained is of a package of this strength
abbrev pub is_of_strength : List (Option ℕ) → ℕ → ExplainedView → Bool
is_of_strength strengths strength e = has_strength strengths strength e.part.package

-- the notices on these, of the packages of this strength
abbrev pub notes_of_strength : ContextRecord → Course → List (Option ℕ) → ℕ → List ExplainedView → List Note
notes_of_strength cx t strengths strength all = flat_map (suspect_notes_on t.plan cx.args.partition) (filter (is_of_strength strengths strength) all)

-- the notices on the suspects of at most so many candidates, of the packages of this strength
pub record AreSuspectNotes (cx : ContextRecord) (t : Course) (strengths : List (Option ℕ)) (strength : ℕ) (notes : List Note) : Type 0 where
  pub all : List ExplainedView
  pub explained : AreExplained t strength all
  pub are : notes ≡ notes_of_strength cx t strengths strength all

-- the notices on these strengths, one after the other
pub record AreInTurn (cx : ContextRecord) (t : Course) (strengths : List (Option ℕ)) (each : List ℕ) (notes : List Note) : Type 0 where
  pub lists : List (List Note)
  pub such : AllZip (AreSuspectNotes cx t strengths) each lists
  pub all : notes ≡ flat_map (λ list. list) lists

-- the notices on the suspects of all packages, one strength after the other
abbrev pub AreNotesInTurn : ContextRecord → Course → List Note → Type 0
AreNotesInTurn cx t notes = (strengths : List (Option ℕ)) × AreStrengths cx strengths × AreInTurn cx t strengths (each_strength strengths) notes

-- just these were said
abbrev pub SaysSuspects : Coloring → ContextRecord → Course → Stream → Stream → Type 0
SaysSuspects coloring cx t old new = (notes : List Note) × AreNotesInTurn cx t notes × WritesAll (map (λ note. info_line coloring note.text) notes) old new
