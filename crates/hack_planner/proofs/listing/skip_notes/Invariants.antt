use Rattle.std.proofs.Common.{◌≡◌, take, map}
use Rattle.std.specs.Prelude.{filter, ◌&&◌}
use Rattle.hack_base.specs.Notes.{note_of, info_note}
use Rattle.hack_planner.specs.Texts.{private_text}
use Rattle.hack_planner.specs.Members.{Member}
use Rattle.hack_planner.specs.MembersView.{member_view}
use Rattle.hack_planner.proofs.listing.skip_notes.Given as goal

-- the notices are those on the members so far
abbrev pub invariant-loop-member : goal.invariant-loop-member
invariant-loop-member l = map note_of l.notices.items ≡ map (λ (m : Member). info_note (private_text l.verbose m.pkg)) (filter (λ (m : Member). l.ignored && m.is_private) (take l.member-index (map member_view l.members)))
