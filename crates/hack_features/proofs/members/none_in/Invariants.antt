use Rattle.std.proofs.Common.{◌≡◌, take, true}
use Rattle.std.specs.Prelude.{not}
use Rattle.std.specs.List.{list_all}
use Rattle.hack_routes.specs.Rows.{bit}
use Rattle.hack_features.specs.Samples.{positions_of}
use Rattle.hack_features.proofs.members.none_in.Given as goal

abbrev pub invariant-loop-place : goal.invariant-loop-place
invariant-loop-place l = list_all (λ q. not (bit l.row q)) (positions_of (take l.place l.set)) ≡ true
