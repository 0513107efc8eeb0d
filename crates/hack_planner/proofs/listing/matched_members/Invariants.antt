use Rattle.std.proofs.Common.{take, map}
use Rattle.hack_base.specs.Names.{names_of}
use Rattle.hack_planner.specs.Members.{SelectsMembers}
use Rattle.hack_planner.specs.MembersView.{member_view}
use Rattle.hack_planner.specs.InternalListingView.{IsMatchedAs}
use Rattle.hack_planner.proofs.listing.matched_members.Given as goal

-- kept has those of the members so far that are picked
abbrev pub invariant-loop-member : goal.invariant-loop-member
invariant-loop-member l = SelectsMembers (IsMatchedAs l.matched (names_of l.specs)) (take l.member-index (map member_view l.members)) (map member_view l.kept.items)
