-- What `SetRoom` holds.
use Rattle.std.specs.Prelude.{ℕ, List, drop, length}
use Rattle.hack_powerset_list.specs.declared.room.SetRoom.{SetRoom}

-- the set
abbrev pub set_in : SetRoom → List ℕ
set_in room = drop room.start room.places.items

-- how many positions there is room for
abbrev pub most_in : SetRoom → ℕ
most_in room = length room.places.items
