use Rattle.hack_journal.proofs.CutLemmas.{cut_by}
use Rattle.hack_journal.proofs.cuts.is_cut.Goals as goal

pub returns : goal.returns
returns c = rw (c.in-Some-Some.is-0, c.in-Some-Some.is-1) (cut_by c.in-Some-Some.new.now c.in-Some-Some.old.now c.args.now.now _ _ c.common-count.result c.eq.result c.common-count.ensures c.behind.ensures c.behind-2.ensures c.eq.ensures)
