use Rattle.std.proofs.Common.{rules, ◌≡◌, ◌∙◌, sym, ap, map, length}
use Rattle.std.specs.Vec.Iter.{into_iter_items}
use Rattle.toml.specs.View.{view, items_of}
use Rattle.hack_base.specs.Names.{names_behind}
use Rattle.hack_private_crates.specs.Members.{members_left}
use Rattle.hack_edits.proofs.ItemLemmas.{list_of-items_of}
use Rattle.hack_private_crates.proofs.PrivateLemmas.{members-kept, members-end}
use Rattle.hack_private_crates.proofs.workspace_tree.kept_members.Goals as goal

pub loop-item-preserved-in-Continue-branch-4 : goal.loop-item-preserved-in-Continue-branch-4
loop-item-preserved-in-Continue-branch-4 c =
    rw c.in_ok-push.ensures.items (members-kept c.args.private.now.root.now (names_behind c.loop-item.left.items) (names_behind c.in_ok-left-2.left.items) c.loop-item.kept.items _ c.in-Some.item _ _ c.in-Some.ensures.steps.0 (sym (rw c.as_slice.ensures.value at c.in_ok-led.ensures) ∙ c.if-not-led.true) (rw c.as_slice-in-loop-item.ensures.value at c.in_ok-left-2.ensures) c.loop-item.invariant)

pub returns : goal.returns
returns c =
    let none : length (into_iter_items c.loop-item.item-iterator) ≡ 0 = search rules in
    members-end c.args.private.now.root.now (names_behind c.loop-item.left.items) c.loop-item.kept.items _ _ none c.loop-item.invariant
    ∙ ap (λ ds. items_of (members_left c.args.private.now.root.now (names_behind c.args.private.now.paths.now) ds)) (sym (list_of-items_of (map view c.args.items.items)))
