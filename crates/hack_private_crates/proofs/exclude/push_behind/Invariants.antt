use Rattle.std.proofs.Common.{◌≡◌, ◌++◌, drop, map}
use Rattle.std.specs.Prelude.{codes}
use Rattle.std.specs.List.{flat_map}
use Rattle.hack_base.specs.PathTexts.{parent_of}
use Rattle.hack_base.specs.Names.{names_behind}
use Rattle.hack_private_crates.specs.Exclude.{quoted_text}
use Rattle.hack_private_crates.proofs.exclude.push_behind.Given as goal

abbrev pub invariant-loop-path : goal.invariant-loop-path
invariant-loop-path l = l.out.items ++ flat_map (λ t. codes ", " ++ quoted_text t) (map parent_of (names_behind (drop l.path-index l.paths)))
    ≡ l.initial.out.items ++ flat_map (λ t. codes ", " ++ quoted_text t) (map parent_of (names_behind l.paths))
