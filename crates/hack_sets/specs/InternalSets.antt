-- What only private functions of the crate promise each other.
use Rattle.std.specs.Prelude.{ℕ, List, [], ◌∷◌, ◌++◌, map, filter, length, Option, None, Some, Bool, true, nat_lt}

-- the limit, if there is one, lets the list grow by one item
abbrev pub has_room : {X : Type 0} → Option ℕ → List X → Bool
has_room None s = true
has_room (Some most) s = nat_lt (length s) most

-- each list that has room, with one more item
abbrev pub with_each : {X : Type 0} → Option ℕ → X → List (List X) → List (List X)
with_each depth x lists = map (λ list. list ++ x ∷ []) (filter (has_room depth) lists)
