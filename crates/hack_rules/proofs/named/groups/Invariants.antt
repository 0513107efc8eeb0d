use Rattle.std.proofs.Common.{◌≡◌, take, map, string_bytes}
use Rattle.hack_rules.specs.Uses.{views}
use Rattle.hack_rules.specs.Values.{values_given}
use Rattle.hack_rules.specs.CliGroups.{AreGroupsOf}
use Rattle.hack_rules.proofs.named.groups.Given as goal

abbrev pub invariant-loop-text : goal.invariant-loop-text
invariant-loop-text l = AreGroupsOf (map string_bytes (take l.text-index l.text-items)) l.groups.items × (map string_bytes l.text-items ≡ values_given l.fn.option (views l.fn.uses))
