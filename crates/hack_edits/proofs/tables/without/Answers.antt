use Rattle.hack_edits.proofs.TreeLemmas.{members_view-remove_entry}
use Rattle.hack_edits.proofs.tables.without.Goals as goal

pub returns : goal.returns
returns c = rw c.remove.ensures.entries (members_view-remove_entry c.args.key.now c.args.table.entries)
