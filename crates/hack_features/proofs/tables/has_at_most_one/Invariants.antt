use Rattle.std.proofs.Common.{◌≡◌, ◌≤◌, take}
use Rattle.std.specs.Prelude.{sum_by}
use Rattle.hack_features.specs.Tables.{count_at}
use Rattle.hack_features.proofs.tables.has_at_most_one.Given as goal

abbrev pub invariant-loop-p : goal.invariant-loop-p
invariant-loop-p l = (l.seen ≡ sum_by (count_at l.row) (take l.p-index l.positions)) × (l.seen ≤ 1)
