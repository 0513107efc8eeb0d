use Rattle.std.proofs.Common.{◌≡◌, ◌∙◌, sym, true, false}
use Rattle.hack_powerset_list.proofs.WishLemmas.{groups-more, lacks-here, IsGroup-names}
use Rattle.hack_powerset_list.proofs.wishes.groups_of.Goals as goal

pub returns-then-not-has_separator : goal.returns-then-not-has_separator
returns-then-not-has_separator c =
    lacks-here c.args.lists.now c.loop-list.list-index _ c.loop-list-test.true (λ s. let no : true ≡ false = sym (c.has_separator.ensures.separator.1 s) ∙ c.if-not-has_separator.true in absurd (cc))

pub loop-list-preserved : goal.loop-list-preserved
loop-list-preserved c =
    rw c.in_ok-push.ensures.items (groups-more c.args.lists.now c.loop-list.list-index _ c.loop-list.groups.items c.in_ok-group.field-0 c.loop-list-test.true c.loop-list.invariant (c.has_separator.ensures.separator.0 c.if-not-has_separator.false)
    (IsGroup-names _ c.in_ok-group.field-0 c.in_ok-group.ensures ∙ c.in_ok-split_group.ensures))
