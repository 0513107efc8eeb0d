use Rattle.std.proofs.Common.{◌≡◌, ◌++◌, map, ap, ◌∙◌, length, arith}
use Rattle.std.proofs.lemmas.List.{map-append}
use Rattle.hack_sets.specs.Sets.{items_at}
use Rattle.hack_sets.specs.InternalSets.{with_each}
use Rattle.hack_samples.specs.Sets.{rows_of}
use Rattle.hack_sets.proofs.Listing.{next_lists, listing, sets_below}
use Rattle.hack_sets.proofs.sets.powerset.Goals as goal

pub loop-item-preserved : goal.loop-item-preserved
loop-item-preserved g c =
    ap rows_of c.in_ok-append.ensures.items
    ∙ map-append (λ list. list.items) c.loop-item.lists.items c.in_ok-more.more.items
    ∙ ap (λ m. rows_of c.loop-item.lists.items ++ m)
    (c.in_ok-more.ensures ∙ ap (λ ls. with_each c.args.depth c.item-item.result (rows_of ls)) c.as_slice.ensures.value)
    ∙ next_lists c.args.items.now c.args.depth c.loop-item.item-index c.item-item.result (rows_of c.loop-item.lists.items)
    c.loop-item-test.true c.item-item.is c.loop-item.invariant

pub returns : goal.returns
returns g c =
    let all : c.loop-item.item-index ≡ length c.args.items.now = omega arith in
    record {
      sets = sets_below c.args.depth (length c.args.items.now);
      listing = listing c.args.depth (length c.args.items.now);
      items_of = c.loop-item.invariant ∙ ap (λ n. map (items_at c.args.items.now) (sets_below c.args.depth n)) all;
    }
