use Rattle.hack_journal.proofs.CutLemmas.{none_shared}
use Rattle.hack_journal.proofs.cuts.common.Goals as goal

pub returns-else-count-b : goal.returns-else-count-b
returns-else-count-b c = none_shared c.args.a.now c.args.b.now c.loop-count.count _ c.if-count-b.false c.loop-count.invariant
