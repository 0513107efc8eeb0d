use Rattle.std.proofs.Common.{◌≡◌, map, take, not, string_bytes}
use Rattle.std.specs.Prelude.{filter}
use Rattle.hack_features.specs.Feature.{groups_of}
use Rattle.hack_base.specs.Notes.{note_of, warning_note}
use Rattle.hack_base.specs.Names.{names_of}
use Rattle.hack_planner.specs.Texts.{dependency_text}
use Rattle.hack_planner.specs.Candidates.{one_has}
use Rattle.hack_planner.proofs.candidates.About.dependency_notes.Given as goal

-- the notices are those on the names so far
abbrev pub invariant-loop-name : goal.invariant-loop-name
invariant-loop-name l = map note_of l.notices.items ≡ map (λ x. warning_note (dependency_text (string_bytes l.self.pkg.now.name) x)) (filter (λ x. not (one_has (groups_of l.self.features.now.optional_deps.items) x)) (take l.name-index (names_of l.name-items)))
