-- What only private functions of the crate promise each other.
use Rattle.std.specs.Prelude.{ℕ, List, Bool, map}
use Rattle.std.specs.List.{list_any}
use Rattle.hack_routes.specs.Rows.{leads}
use Rattle.hack_features.specs.Samples.{positions_of}

-- one of the names leads to y
abbrev pub one_leads : List (List Bool) → ℕ → List ℕ → Bool
one_leads marks y names = list_any (λ x. leads marks x y) names

-- the candidates that have a name that leads to y
abbrev pub providers_of : List (List Bool) → List (List ℕ) → ℕ → List ℕ
providers_of marks candidates y = positions_of (map (one_leads marks y) candidates)

-- for each name of each candidate the candidates that have a name that leads to it
abbrev pub all_providers : List (List Bool) → List (List ℕ) → List (List (List ℕ))
all_providers marks candidates = map (map (providers_of marks candidates)) candidates
