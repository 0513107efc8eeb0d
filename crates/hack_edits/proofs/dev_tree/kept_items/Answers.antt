use Rattle.std.proofs.Common.{rules, ◌≡◌, ◌∙◌, sym, ap, map, length}
use Rattle.std.specs.Vec.Iter.{into_iter_items}
use Rattle.toml.specs.View.{view, items_of, table_view}
use Rattle.hack_edits.specs.DevTree.{items_left}
use Rattle.hack_edits.proofs.ItemLemmas.{list_of-items_of, items_left-kept, items_left-end}
use Rattle.hack_edits.proofs.dev_tree.kept_items.Goals as goal

pub loop-item-preserved-in-Continue-1 : goal.loop-item-preserved-in-Continue-1
loop-item-preserved-in-Continue-1 c =
    rw c.in_ok-push.ensures.items (items_left-kept (table_view c.args.old.now) c.loop-item.kept.items _ c.in-Some.item _ _ c.in-Some.ensures.steps.0 (sym c.value_goes.ensures ∙ c.if-not-value_goes.true) c.loop-item.invariant)

pub returns : goal.returns
returns c =
    let none : length (into_iter_items c.loop-item.item-iterator) ≡ 0 = search rules in
    items_left-end (table_view c.args.old.now) c.loop-item.kept.items _ _ none c.loop-item.invariant
    ∙ ap (λ ds. items_of (items_left (table_view c.args.old.now) ds)) (sym (list_of-items_of (map view c.args.items.items)))
