use Rattle.std.proofs.Common.{◌≡◌, take, true}
use Rattle.std.specs.Prelude.{not}
use Rattle.std.specs.List.{list_all}
use Rattle.hack_routes.specs.Rows.{bit}
use Rattle.hack_features.proofs.tables.has_none.Given as goal

abbrev pub invariant-loop-p : goal.invariant-loop-p
invariant-loop-p l = list_all (λ q. not (bit l.row q)) (take l.p-index l.positions) ≡ true
