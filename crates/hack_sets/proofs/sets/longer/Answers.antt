use Rattle.std.proofs.Common.{arith}
use Rattle.std.proofs.lemmas.Grind.{common_steps}
use Rattle.hack_sets.proofs.Listing.{rows-more}
use Rattle.hack_sets.proofs.sets.longer.Goals as goal

pub loop-list-preserved : goal.loop-list-preserved
loop-list-preserved g c =
    let more = rows-more c.args.depth c.args.item c.args.lists.now c.loop-list.list-index c.list-item.result c.loop-list-test.true c.list-item.is in
    grind (arith, common_steps, more)
