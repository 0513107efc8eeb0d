-- What the arguments of `Rules::new` are: a choice.
use Rattle.std.specs.Prelude.{ℕ, List, Bool, Option, String, Vec}
use Rattle.std.specs.BTreeMap.{BTreeMap}
use Rattle.std.specs.Borrow.{Bor}
use Rattle.hack_features.specs.declared.feature.Feature.{Feature}
use Rattle.hack_features.specs.declared.tables.Given.{Given}
use Rattle.hack_routes.specs.FeatureMap.{feature_map}
use Rattle.hack_features.specs.Feature.{groups_of, candidates_of}
use Rattle.hack_features.specs.Rules.{Choice, unlifted_groups}

-- the choice that the arguments of `Rules::new` make
abbrev pub choice : {Y Z : Type 0} → List (Bor Feature) → Option ℕ → List Feature → List Feature → BTreeMap (String Y) (Vec (String Y) Z) → List Bool → Choice
choice features depth at_least_one_of exclusive m lifted = record {
  map = feature_map m;
  candidates = candidates_of features;
  depth = depth;
  at_least_one_of = groups_of at_least_one_of;
  exclusive = unlifted_groups (groups_of exclusive) lifted;
}

-- the choice that is given
abbrev pub choice_in : Given → Choice
choice_in g = choice g.features.now g.depth g.at_least_one_of.now g.exclusive.now g.map.now g.lifted.now
