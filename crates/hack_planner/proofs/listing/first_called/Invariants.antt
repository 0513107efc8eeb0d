use Rattle.std.proofs.Common.{◌≡◌, drop, map, []}
use Rattle.std.specs.List.{find}
use Rattle.std.specs.Option.{option_to_list}
use Rattle.std.specs.Str.{bytes_eq}
use Rattle.hack_planner.specs.Members.{Member}
use Rattle.hack_planner.specs.MembersView.{member_view}
use Rattle.hack_planner.proofs.listing.first_called.Given as goal

-- no member so far has the name
abbrev pub invariant-loop-member : goal.invariant-loop-member
invariant-loop-member l = record {
  nothing : l.kept.items ≡ [];
  same : option_to_list (find (λ (m : Member). bytes_eq m.pkg.name l.name) (map member_view (drop l.member-index l.members)))
      ≡ option_to_list (find (λ (m : Member). bytes_eq m.pkg.name l.name) (map member_view l.members));
}
