use Rattle.std.proofs.Common.{◌≡◌, take, true}
use Rattle.std.specs.List.{list_all}
use Rattle.hack_samples.specs.Sets.{rows_of}
use Rattle.hack_features.specs.InternalCover.{set_enables_test}
use Rattle.hack_features.proofs.cover.covers.Given as goal

abbrev pub invariant-loop-y : goal.invariant-loop-y
invariant-loop-y l = list_all (set_enables_test (rows_of l.enabled.routes.marks.items) (rows_of l.enabled.candidates.items) l.positions) (take l.y-index l.names) ≡ true
