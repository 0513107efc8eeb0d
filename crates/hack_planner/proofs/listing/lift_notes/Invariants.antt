use Rattle.std.proofs.Common.{◌≡◌, take, map, not, string_bytes}
use Rattle.std.specs.Prelude.{filter}
use Rattle.hack_base.specs.Notes.{note_of, warning_note}
use Rattle.hack_planner.specs.Texts.{lift_text}
use Rattle.hack_planner.specs.Members.{is_called}
use Rattle.hack_planner.specs.MembersView.{member_view}
use Rattle.hack_planner.proofs.listing.lift_notes.Given as goal

-- the notices are those on the lifts so far
abbrev pub invariant-loop-lift : goal.invariant-loop-lift
invariant-loop-lift l = map note_of l.notices.items ≡ map (λ owner. warning_note (lift_text l.root owner)) (filter (λ owner. not (is_called (map member_view l.members) owner)) (take l.lift-index (map (λ lift. string_bytes lift.0) l.lifts)))
