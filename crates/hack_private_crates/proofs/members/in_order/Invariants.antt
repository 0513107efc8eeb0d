use Rattle.std.proofs.Common.{◌≡◌, ◌++◌}
use Rattle.hack_base.specs.Names.{names_behind}
use Rattle.hack_private_crates.specs.Members.{in_order}
use Rattle.hack_private_crates.proofs.members.in_order.Given as goal

-- those so far, and those that are left, are all
abbrev pub invariant-loop-path : goal.invariant-loop-path
invariant-loop-path l = names_behind l.all.items ++ names_behind l.path-iterator ≡ in_order (names_behind l.paths)
