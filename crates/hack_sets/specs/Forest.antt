-- The sets that a forest has, and those of them that are chosen.
use Rattle.std.specs.Prelude.{ℕ, List, [], ◌∷◌, map, drop, Option, None, Some, Vec}
use Rattle.std.specs.List.{slice_index_or}
use Rattle.hack_sets.specs.declared.forest.Forest.{Forest}
use Rattle.hack_sets.specs.declared.forest.FeatureSets.{FeatureSets}
use Rattle.hack_sets.specs.Links.{grown_sets}

-- the sets of a forest, by place
abbrev pub sets_of : Forest → List (List ℕ)
sets_of f = grown_sets ([] ∷ []) f.links.items

-- the sets at the places, or all but the first
abbrev pub picked_sets : {Z : Type 0} → Option (Vec ℕ Z) → List (List ℕ) → List (List ℕ)
picked_sets None sets = drop 1 sets
picked_sets (Some places) sets = map (λ p. slice_index_or sets p []) places.items

-- the sets of positions that `FeatureSets` has, by rank
abbrev pub sets_in : FeatureSets → List (List ℕ)
sets_in f = picked_sets f.places (sets_of f.forest)
