use Rattle.std.proofs.Common.{◌≡◌, ◌<◌, ◌↔◌, ℕ, IsTrue, length}
use Rattle.hack_routes.specs.FeatureMap.{Chain}
use Rattle.hack_samples.specs.Sets.{rows_of}
use Rattle.hack_routes.specs.InternalPlaces.{Leads}
use Rattle.hack_routes.specs.Rows.{leads}
use Rattle.hack_routes.proofs.marks.all_marks.Given as goal

abbrev pub invariant-loop-place : goal.invariant-loop-place
invariant-loop-place l = record {
  len : length l.marks.items ≡ l.place;
  says : (i : ℕ) → i < l.place → (j : ℕ) → IsTrue (leads (rows_of l.marks.items) i j) ↔ Chain (Leads (rows_of l.rows)) i j;
}
