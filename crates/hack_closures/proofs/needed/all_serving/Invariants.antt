use Rattle.std.proofs.Common.{◌≡◌, ◌∷◌, ◌++◌, [], take, map, true, cond}
use Rattle.hack_conflicts.specs.Sets.{rows_of, mark}
use Rattle.hack_closures.proofs.needed.all_serving.Given as goal

abbrev pub invariant-loop-row : goal.invariant-loop-row
invariant-loop-row l = rows_of l.found.items ≡ map (λ row. map (mark row) l.alone ++ cond l.all (true ∷ []) []) (take l.row-index (rows_of l.rows))
