use Rattle.std.proofs.Common.{◌≡◌, take, drop, map, string_bytes}
use Rattle.std.specs.List.{filter_map, find}
use Rattle.std.specs.Option.{is_none}
use Rattle.hack_rules.specs.CliGroups.{AreLifts}
use Rattle.hack_rules.specs.Internal.{AreReadAs}
use Rattle.hack_rules.specs.CliLists.{lift_of}
use Rattle.hack_rules.proofs.named.lifts_of.Given as goal

abbrev pub invariant-loop-text : goal.invariant-loop-text
invariant-loop-text l =
    AreLifts (filter_map lift_of (map string_bytes (take l.text-index l.texts))) l.lifts.items
    × AreReadAs (take l.text-index l.texts) l.lifts.items
    × (find (λ t. is_none (lift_of t)) (map string_bytes l.texts) ≡ find (λ t. is_none (lift_of t)) (map string_bytes (drop l.text-index l.texts)))
