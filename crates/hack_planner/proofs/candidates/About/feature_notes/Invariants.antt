use Rattle.std.proofs.Common.{◌≡◌, map, take, not, string_bytes}
use Rattle.std.specs.Prelude.{filter}
use Rattle.hack_base.specs.Notes.{note_of, warning_note}
use Rattle.hack_base.specs.Names.{names_of}
use Rattle.hack_planner.specs.Texts.{feature_text}
use Rattle.hack_planner.specs.Candidates.{is_found}
use Rattle.hack_planner.proofs.candidates.About.feature_notes.Given as goal

-- the notices are those on the names so far
abbrev pub invariant-loop-name : goal.invariant-loop-name
invariant-loop-name l = map note_of l.notices.items ≡ map (λ x. warning_note (feature_text (string_bytes l.self.pkg.now.name) x)) (filter (λ x. not (is_found l.self.features.now x)) (take l.name-index (names_of l.name-items)))
