use Rattle.std.proofs.Common.{◌≡◌, drop, not}
use Rattle.std.specs.List.{list_any}
use Rattle.hack_base.specs.Lists.{is_list}
use Rattle.hack_rules.specs.Uses.{views}
use Rattle.hack_rules.specs.Values.{values_given}
use Rattle.hack_rules.proofs.early.lists_two.Given as goal

abbrev pub invariant-loop-one : goal.invariant-loop-one
invariant-loop-one l =
    list_any (λ text. not (is_list text)) (values_given l.option (views l.uses))
    ≡ list_any (λ text. not (is_list text)) (values_given l.option (views (drop l.one-index l.uses)))
