-- What a table of names shows.
use Rattle.std.specs.Prelude.{List}
use Rattle.hack_base.specs.Names.{Name, names_behind}
use Rattle.hack_routes.specs.InternalPlaces.{HasPlaces}
use Rattle.hack_routes.specs.declared.names.Names.{Names}

-- the names of a table, by place
abbrev pub table : Names → List Name
table names = names_behind names.texts.items

-- the table and its map agree
abbrev pub IsInStep : Names → Type 0
IsInStep names = HasPlaces (table names) names.places
