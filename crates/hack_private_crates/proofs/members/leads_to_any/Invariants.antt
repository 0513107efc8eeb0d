use Rattle.std.proofs.Common.{◌≡◌, drop}
use Rattle.std.specs.List.{list_any}
use Rattle.hack_base.specs.Names.{names_behind}
use Rattle.hack_private_crates.specs.Members.{leads}
use Rattle.hack_private_crates.proofs.members.leads_to_any.Given as goal

abbrev pub invariant-loop-path : goal.invariant-loop-path
invariant-loop-path l = list_any (leads l.root l.member) (names_behind (drop l.path-index l.paths)) ≡ list_any (leads l.root l.member) (names_behind l.paths)
