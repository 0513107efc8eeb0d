use Rattle.std.proofs.Common.{◌≡◌, ◌++◌, map, take, string_bytes}
use Rattle.std.specs.List.{flat_map}
use Rattle.hack_base.specs.Names.{names_behind}
use Rattle.hack_plan.specs.Commands.{target_pair}
use Rattle.hack_plan.proofs.commands.push_targets.Given as goal

abbrev pub invariant-loop-target : goal.invariant-loop-target
invariant-loop-target l = names_behind l.words.items ≡ names_behind l.fn.words.items ++ flat_map target_pair (map string_bytes (take l.target-index l.targets))
