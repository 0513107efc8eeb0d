use Rattle.std.proofs.Common.{take}
use Rattle.hack_base.specs.Names.{names_of}
use Rattle.std.specs.List.{AllZip}
use Rattle.hack_features.specs.Feature.{IsNormal}
use Rattle.hack_rules.proofs.named.normals.Given as goal

abbrev pub invariant-loop-name : goal.invariant-loop-name
invariant-loop-name l = AllZip IsNormal (names_of (take l.name-index l.names)) l.features.items
