use Rattle.std.proofs.Common.{◌≡◌, ◌++◌, drop, map, string_bytes}
use Rattle.std.specs.List.{flat_map}
use Rattle.hack_rules.specs.Uses.{views}
use Rattle.hack_rules.specs.CliLists.{names_given}
use Rattle.hack_base.specs.Lists.{list_names}
use Rattle.hack_rules.proofs.named.names.Given as goal

abbrev pub invariant-loop-text : goal.invariant-loop-text
invariant-loop-text l = map string_bytes l.names.items ++ flat_map list_names (map string_bytes (drop l.text-index l.text-items)) ≡ names_given l.fn.option (views l.fn.uses)
