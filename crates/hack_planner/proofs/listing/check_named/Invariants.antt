use Rattle.std.proofs.Common.{take, map}
use Rattle.hack_base.specs.Names.{names_of}
use Rattle.hack_planner.specs.Members.{AllMatch}
use Rattle.hack_planner.specs.MembersView.{member_view}
use Rattle.hack_planner.proofs.listing.check_named.Given as goal

-- each specification so far matches a member
abbrev pub invariant-loop-spec : goal.invariant-loop-spec
invariant-loop-spec l = AllMatch (map member_view l.members) (take l.spec-index (names_of l.specs))
