use Rattle.std.proofs.Common.{◌≡◌, ◌≤◌, take}
use Rattle.std.specs.Prelude.{sum_by}
use Rattle.hack_features.specs.Tables.{count_at}
use Rattle.hack_features.specs.Samples.{positions_of}
use Rattle.hack_features.proofs.members.at_most_one_in.Given as goal

abbrev pub invariant-loop-place : goal.invariant-loop-place
invariant-loop-place l = (l.seen ≡ sum_by (count_at l.row) (positions_of (take l.place l.set))) × (l.seen ≤ 1)
