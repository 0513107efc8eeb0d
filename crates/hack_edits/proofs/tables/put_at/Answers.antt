use Rattle.hack_edits.proofs.TreeLemmas.{members_view-insert_entry}
use Rattle.hack_edits.proofs.tables.put_at.Goals as goal

pub returns : goal.returns
returns c = rw c.in_ok-insert.ensures.entries (members_view-insert_entry c.args.kept.now.entries c.args.key c.args.value)
