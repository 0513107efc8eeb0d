use Rattle.hack_edits.proofs.TreeLemmas.{copied-table}
use Rattle.hack_edits.proofs.tables.copy_of.Goals as goal

pub returns : goal.returns
returns c = copied-table c.clone.result c.args.table.now _ c.clone.ensures.cases
