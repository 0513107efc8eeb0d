use Rattle.std.proofs.Common.{◌≡◌, ◌++◌, drop}
use Rattle.std.specs.Prelude.{not, filter}
use Rattle.hack_base.specs.Names.{names_behind}
use Rattle.hack_private_crates.specs.Members.{leads}
use Rattle.hack_private_crates.proofs.members.not_led.Given as goal

abbrev pub invariant-loop-path : goal.invariant-loop-path
invariant-loop-path l =
    names_behind l.left.items ++ filter (λ p. not (leads l.root l.member p)) (names_behind (drop l.path-index l.paths)) ≡ filter (λ p. not (leads l.root l.member p)) (names_behind l.paths)
