-- The notices on the small patterns that explain failed runs.
use Rattle.std.specs.Prelude.{ℕ, ◌+◌, ◌-◌, ◌++◌, List, [], ◌∷◌, Bool, true, false, Option, Some, None, codes, length, map, nat_eq, nat_lt, take, slice_get, unwrap_or, if◌then◌else◌}
use Rattle.std.specs.List.{join_by, list_any, slice_index_or}
use Rattle.std.specs.Fmt.{decimal}
use Rattle.hack_base.specs.Notes.{Note, info_note}
use Rattle.hack_versions.specs.declared.version.Version.{Version}
use Rattle.hack_versions.specs.VersionTexts.{version_text}
use Rattle.hack_plan.specs.View.{PackageView, PlanView}
use Rattle.hack_plan.specs.Commands.{name_in, slot_target}
use Rattle.hack_partition.specs.declared.partition.Partition.{Partition}
use Rattle.hack_samples.specs.declared.sets.Setting.{Setting}
use Rattle.hack_session.specs.declared.suspects.Part.{Part}
use Rattle.hack_session.specs.Suspects.{ExplainedView, candidate_count}

-- the names of each candidate of a package
abbrev pub package_candidates : Option PackageView → List (List (List ℕ))
package_candidates None = []
package_candidates (Some k) = k.candidates

-- the version of runs, where they have one
abbrev pub version_words : Option Version → List ℕ
version_words None = []
version_words (Some v) = codes " on " ++ version_text v

-- the target of runs, where their slot has one of its own
abbrev pub for_target_text : Option (List ℕ) → List ℕ
for_target_text None = []
for_target_text (Some target) = codes " for " ++ target

-- where runs were: their package, version and target
abbrev pub place_text : PlanView → Part → List ℕ
place_text plan part =
    codes "in " ++ (unwrap_or (name_in (slice_get plan.packages part.package)) [] ++ (version_words part.version ++ for_target_text (slot_target plan.call part.version part.slot)))

-- has or have, of this number of things
abbrev pub have_text : ℕ → List ℕ
have_text n = if nat_eq n 1 then codes "has" else codes "have"

-- what a noun ends with, of this number of things
abbrev pub ending : ℕ → List ℕ
ending n = if nat_eq n 1 then [] else codes "s"

-- which of the failed runs show a suspect: so many of them, the one that there is, or all
abbrev pub who_text : ℕ → ℕ → List ℕ
who_text showing failed =
    if nat_lt showing failed then decimal showing ++ (codes " of " ++ (decimal failed ++ (codes " failed runs " ++ have_text showing)))
    else if nat_eq failed 1 then codes "the one failed run has" else codes "all " ++ (decimal failed ++ codes " failed runs have")

-- of which runs a heading speaks, where a piece of the plan was run
abbrev pub piece_text : Option Partition → List ℕ
piece_text None = []
piece_text (Some piece) = codes ", of this piece's runs alone"

-- the heading of the suspects
abbrev pub heading_text : PlanView → Option Partition → ExplainedView → List ℕ
heading_text plan piece e = place_text plan e.part ++ (codes " " ++ (who_text e.showing e.failed ++ (codes " one of these, and no passed run does" ++ (piece_text piece ++ codes ":"))))

-- how many failed runs show no suspect
abbrev pub missed_text : ℕ → List ℕ
missed_text n = decimal n ++ (codes " failed run" ++ (ending n ++ (codes " " ++ have_text n)))

-- what these have: no such pattern, and with which strength to look for one; or, where a pattern may
-- have each of so many candidates, what a passed run has
abbrev pub lacking_text : ℕ → ℕ → List ℕ
lacking_text candidates strength =
    if nat_lt strength candidates then codes " no pattern of at most " ++ (decimal strength ++ (codes " feature" ++ (ending strength ++ (codes " that no passed run has; try --strength " ++ decimal (strength + 1))))) else codes " the same features on as a passed run"

-- the line on a part with too many patterns to look at
abbrev pub too_many_text : PlanView → Part → List ℕ
too_many_text plan part = place_text plan part ++ codes " there are too many patterns to look for what the failed runs have in common"

-- on or off
abbrev pub state_text : Bool → List ℕ
state_text true = codes "on"
state_text false = codes "off"

-- a candidate's names joined by commas, and whether it is on
abbrev pub setting_text : List (List (List ℕ)) → Setting → List ℕ
setting_text candidates setting = join_by (λ text. text) (codes ",") (slice_index_or candidates setting.candidate []) ++ (codes " " ++ state_text setting.on)

-- the line of a suspect: its settings after four spaces
abbrev pub suspect_text : List (List (List ℕ)) → List Setting → List ℕ
suspect_text candidates pattern = codes "    " ++ join_by (λ text. text) (codes ", ") (map (setting_text candidates) pattern)

-- the line that says how many more suspects there are
abbrev pub more_text : ℕ → List ℕ
more_text n = codes "    and " ++ (decimal n ++ codes " more")

-- how many suspects are shown, at most
abbrev pub most_lines : ℕ
most_lines = 20

-- a pattern has a setting
abbrev pub has_setting : List Setting → Bool
has_setting pattern = nat_lt 0 (length pattern)

-- the lines of suspects: of the first ones, and how many more there are
abbrev pub suspect_lines : List (List (List ℕ)) → List (List Setting) → List Note
suspect_lines candidates found =
    map (λ pattern. info_note (suspect_text candidates pattern)) (take most_lines found) ++ (if nat_lt most_lines (length found) then info_note (more_text (length found - most_lines)) ∷ [] else [])

-- the lines under a heading: none where no suspect has a setting, since then all of the part's runs
-- failed or there is no suspect
abbrev pub headed_lines : PlanView → Option Partition → ExplainedView → List (List Setting) → List Note
headed_lines plan piece e found = if list_any has_setting found then info_note (heading_text plan piece e) ∷ suspect_lines (package_candidates (slice_get plan.packages e.part.package)) found else []

-- the line on the failed runs that show no suspect, where there are some
abbrev pub missed_lines : ℕ → ExplainedView → List Note
missed_lines candidates e = if nat_lt e.showing e.failed then info_note (missed_text (e.failed - e.showing) ++ lacking_text candidates e.strength) ∷ [] else []

-- the notices on a part's suspects
abbrev pub notes_of : PlanView → Option Partition → ExplainedView → Option (List (List Setting)) → List Note
notes_of plan piece e None = info_note (too_many_text plan e.part) ∷ []
notes_of plan piece e (Some found) = headed_lines plan piece e found ++ missed_lines (candidate_count (slice_get plan.packages e.part.package)) e

-- the notices on a part that is explained, where just these runs of the plan are told
abbrev pub suspect_notes_on : PlanView → Option Partition → ExplainedView → List Note
suspect_notes_on plan piece e = notes_of plan piece e e.suspects
