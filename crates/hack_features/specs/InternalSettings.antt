-- What only private functions of the crate promise each other.
use Rattle.std.specs.Prelude.{◌<◌, ℕ, List, Bool, IsTrue, Contains, ◌↔◌}
use Rattle.std.specs.List.{list_all}
use Rattle.hack_features.specs.InternalSamples.{one_leads}
use Rattle.hack_routes.specs.Rows.{bit}

-- for each of the names, by place, one of these places leads to it
abbrev pub leads_to_each : List (List Bool) → List ℕ → List ℕ → Bool
leads_to_each marks from names = list_all (λ y. one_leads marks y from) names

-- the list has exactly those of the first n places that are keys
abbrev pub AreKeyPlaces : List Bool → ℕ → List ℕ → Type 0
AreKeyPlaces keys n places = (x : ℕ) → Contains places x ↔ ((x < n) × IsTrue (bit keys x))
