use Rattle.std.specs.Prelude.{◌++◌, codes}
use Rattle.std.specs.Str.{bytes_eq}
use Rattle.std.proofs.Common.{◌≡◌}
use Rattle.std.specs.List.{list_any}
use Rattle.hack_routes.specs.FeatureMap.{feature_map}
use Rattle.hack_base.specs.Names.{names_of}
use Rattle.hack_load.specs.Candidates.{is_named}
use Rattle.hack_load.proofs.features.is_named.Given as goal

-- no value so far names the dependency
abbrev pub invariant-loop-values : goal.invariant-loop-values
invariant-loop-values l = list_any (λ values. list_any (bytes_eq (codes "dep:" ++ l.dep)) (names_of values.items)) l.values-iterator ≡ is_named (feature_map l.features) l.dep
