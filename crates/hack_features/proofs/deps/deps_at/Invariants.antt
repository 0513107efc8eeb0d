use Rattle.std.specs.Prelude.{◌==◌, ◌&&◌, not}
use Rattle.hack_samples.specs.Sets.{rows_of}
use Rattle.hack_routes.specs.Rows.{cell}
use Rattle.hack_routes.specs.RoutesView.{routed_names}
use Rattle.hack_features.proofs.RouteDeps.{Tells}
use Rattle.hack_features.proofs.deps.deps_at.Given as goal

abbrev pub invariant-loop-to : goal.invariant-loop-to
invariant-loop-to l = Tells l.set (routed_names l.routes) (λ to. not (l.from == to) && cell (rows_of l.routes.marks.items) l.from to) l.to
