-- Sets as links to earlier ones.
use Rattle.std.specs.Prelude.{◌≤◌, ◌<◌, ℕ, List, [], ◌∷◌, ◌++◌, length, Option, None, Some, Vec}
use Rattle.std.specs.List.{slice_index_or}
use Rattle.hack_sets.specs.declared.forest.Link.{Link}

-- the sets so far, then those that links make: each an earlier set with one more position
abbrev pub grown_sets : List (List ℕ) → List Link → List (List ℕ)
grown_sets sets [] = sets
grown_sets sets (link ∷ links) = grown_sets (sets ++ (slice_index_or sets link.earlier [] ++ link.last ∷ []) ∷ []) links

-- each link leads to a place before that of its set; the first link's set has the place 1
abbrev pub LeadBack : List Link → Type 0
LeadBack links = (k : ℕ) (d : Link) → k < length links → (slice_index_or links k d).earlier ≤ k

-- the places, if there are any
abbrev pub places_in : {Z : Type 0} → Option (Vec ℕ Z) → List ℕ
places_in None = []
places_in (Some places) = places.items
