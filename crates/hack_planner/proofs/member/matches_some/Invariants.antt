use Rattle.std.proofs.Common.{take, map, Contains}
use Rattle.hack_pkgids.specs.PackageSpecs.{Matches}
use Rattle.hack_planner.specs.Members.{Member, identity}
use Rattle.hack_planner.specs.MembersView.{member_view}
use Rattle.hack_planner.proofs.member.matches_some.Given as goal

-- the specification matches no member so far
abbrev pub invariant-loop-member : goal.invariant-loop-member
invariant-loop-member l = (m : Member) → Contains (take l.member-index (map member_view l.members)) m → ¬ Matches (identity m.pkg) l.spec
