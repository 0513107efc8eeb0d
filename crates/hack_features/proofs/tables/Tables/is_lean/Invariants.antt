use Rattle.std.proofs.Common.{◌≡◌, take, true, ◌++◌, ◌∷◌, []}
use Rattle.std.specs.Prelude.{not}
use Rattle.std.specs.List.{list_all}
use Rattle.hack_samples.specs.Sets.{rows_of}
use Rattle.hack_routes.specs.Rows.{cell}
use Rattle.hack_features.proofs.tables.Tables.is_lean.Given as goal

abbrev pub invariant-loop-p : goal.invariant-loop-p
invariant-loop-p l = list_all (λ p. list_all (λ q. not (cell (rows_of l.self.spares.items) p q)) (l.positions ++ l.last ∷ [])) (take l.p-index l.positions) ≡ true
