use Rattle.std.proofs.Common.{◌≡◌, map, take, not, string_bytes}
use Rattle.std.specs.Prelude.{filter}
use Rattle.hack_base.specs.Notes.{note_of, info_note}
use Rattle.hack_features.specs.Feature.{groups_of}
use Rattle.hack_planner.specs.Texts.{group_text}
use Rattle.hack_planner.specs.Candidates.{applies}
use Rattle.hack_planner.specs.PackageRules.{rules_in}
use Rattle.hack_planner.proofs.candidates.About.group_notes.Given as goal

-- the notices are those on the groups so far
abbrev pub invariant-loop-group : goal.invariant-loop-group
invariant-loop-group l = map note_of l.notices.items ≡ map (λ names. info_note (group_text (string_bytes l.self.pkg.now.name) names)) (filter (λ names. not (applies (rules_in l.self.asked.now) l.self.features.now names)) (take l.group-index (groups_of l.group-items)))
