use Rattle.std.proofs.Common.{◌≡◌, ◌<◌, ℕ, false}
use Rattle.hack_samples.specs.Sets.{rows_of}
use Rattle.hack_features.specs.InternalTables.{serves_test}
use Rattle.hack_features.proofs.tables.is_served.Given as goal

abbrev pub invariant-loop-x : goal.invariant-loop-x
invariant-loop-x l = (x : ℕ) → x < l.x → serves_test l.routes.keys.items (rows_of l.routes.marks.items) l.group x ≡ false
