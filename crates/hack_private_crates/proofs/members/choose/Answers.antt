use Rattle.hack_base.specs.Names.{names_behind}
use Rattle.hack_private_crates.proofs.PrivateLemmas.{some-more, paths-more}
use Rattle.hack_private_crates.proofs.members.choose.Goals as goal

pub items-preserved : goal.items-preserved
items-preserved c =
    let root = c.args.private.now.root.now in
    let xs = c.deref-item-items.result.now in
    record {
      some = some-more root (names_behind c.items.left.items) (names_behind c.in_ok-left-2.left.items) xs c.items.item-index c.item-item.result c.items.some c.in_ok-led.led _ c.items-test.true c.item-item.is (rw c.as_slice.ensures.value at c.in_ok-led.ensures) (rw c.as_slice-in-items.ensures.value at c.in_ok-left-2.ensures) c.items.invariant.some;
      paths = paths-more root (names_behind c.items.left.items) (names_behind c.in_ok-left-2.left.items) _ xs c.items.item-index c.item-item.result c.items-test.true c.item-item.is (rw c.as_slice-in-items.ensures.value at c.in_ok-left-2.ensures) c.items.invariant.paths;
    }
