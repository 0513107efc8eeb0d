use Rattle.toml.proofs.Views.{view-Table}
use Rattle.hack_edits.proofs.TreeLemmas.{is_empty-map}
use Rattle.hack_edits.proofs.dev_tree.is_empty.Goals as goal

pub returns-in-Table : goal.returns-in-Table
returns-in-Table c = rw (c.in-Table.is, view-Table c.in-Table.table) (is_empty-map c.in-Table.table c.is_empty.result c.is_empty.ensures)
