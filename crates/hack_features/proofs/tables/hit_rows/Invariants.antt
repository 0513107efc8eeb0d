use Rattle.std.proofs.Common.{take}
use Rattle.hack_routes.specs.FeatureMap.{feature_map}
use Rattle.hack_features.specs.Feature.{candidates_of, groups_of}
use Rattle.hack_features.specs.Rules.{unlifted_groups}
use Rattle.hack_samples.specs.Sets.{rows_of}
use Rattle.hack_features.specs.InternalTables.{Matched, CountsHits}
use Rattle.hack_features.proofs.tables.hit_rows.Given as goal

abbrev pub invariant-loop-place : goal.invariant-loop-place
invariant-loop-place l = Matched (CountsHits (feature_map l.given.map.now) (candidates_of l.given.features.now)) (unlifted_groups (take l.place (groups_of l.given.exclusive.now)) l.given.lifted.now) (rows_of l.rows.items)
