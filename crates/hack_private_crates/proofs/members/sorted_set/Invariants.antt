use Rattle.std.proofs.Common.{◌≡◌, drop}
use Rattle.std.specs.Prelude.{fold}
use Rattle.std.specs.BTreeSet.{insert_key}
use Rattle.std.specs.Cmp.Lexicographic.{slice_cmp}
use Rattle.std.specs.Ordering.{nat_cmp}
use Rattle.hack_base.specs.Names.{names_behind}
use Rattle.hack_private_crates.specs.Members.{in_order}
use Rattle.hack_private_crates.proofs.members.sorted_set.Given as goal

-- the paths that are left, put into the set, make it all of them
abbrev pub invariant-loop-path : goal.invariant-loop-path
invariant-loop-path l =
    fold (insert_key (slice_cmp nat_cmp)) (names_behind l.set.keys) (names_behind (drop l.path-index l.paths)) ≡ in_order (names_behind l.paths)
