use Rattle.std.proofs.Common.{◌≡◌, map, not, string_bytes}
use Rattle.std.specs.List.{find}
use Rattle.std.specs.Iterator.Adapters.{zip_first, zip_second}
use Rattle.std.specs.Slice.Iter.{iter_rest}
use Rattle.hack_features.specs.Feature.{group_of}
use Rattle.hack_rules.specs.Internal.{AreReadAs}
use Rattle.hack_rules.specs.CliLists.{lifts_one_of}
use Rattle.hack_rules.proofs.named.check_groups.Given as goal

abbrev pub invariant-loop-text : goal.invariant-loop-text
invariant-loop-text l =
    let texts = iter_rest (zip_first l.text-iterator) in
    AreReadAs texts (iter_rest (zip_second l.text-iterator))
    × (find (λ text. not (lifts_one_of (map group_of l.groups) text)) (map string_bytes l.texts) ≡ find (λ text. not (lifts_one_of (map group_of l.groups) text)) (map string_bytes texts))
