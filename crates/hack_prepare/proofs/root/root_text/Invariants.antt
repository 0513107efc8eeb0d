use Rattle.std.proofs.Common.{◌≡◌, drop}
use Rattle.std.specs.List.{find}
use Rattle.hack_prepare.specs.Prepared.{is_root}
use Rattle.hack_prepare.specs.PreparedView.{wanted_view}
use Rattle.hack_prepare.specs.Internal.{members_view}
use Rattle.hack_prepare.proofs.root.root_text.Given as goal

-- the member found among those left is that of all
abbrev pub invariant-loop-member : goal.invariant-loop-member
invariant-loop-member l =
    find (is_root (wanted_view l.wanted)) (members_view (drop l.member-index l.members)) ≡ find (is_root (wanted_view l.wanted)) (members_view l.members)
