use Rattle.std.proofs.Common.{take, map}
use Rattle.hack_base.specs.Names.{names_of}
use Rattle.hack_base.specs.Notes.{note_of, warning_note}
use Rattle.hack_planner.specs.Texts.{exclusion_text}
use Rattle.hack_planner.specs.Members.{Collects, MatchesSome}
use Rattle.hack_planner.specs.MembersView.{member_view}
use Rattle.hack_planner.proofs.listing.exclusion_notes.Given as goal

-- the notices are those on the exclusions so far
abbrev pub invariant-loop-spec : goal.invariant-loop-spec
invariant-loop-spec l = Collects (λ spec. ¬ MatchesSome (map member_view l.members) spec) (λ spec. warning_note (exclusion_text l.root spec)) (take l.spec-index (names_of l.exclude)) (map note_of l.notices.items)
