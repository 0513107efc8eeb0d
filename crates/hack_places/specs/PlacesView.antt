-- The places of a call as clauses see them.
use Rattle.std.specs.Prelude.{string_bytes}
use Rattle.hack_places.specs.CallPlaces.{PlacesAt}
use Rattle.hack_places.specs.declared.places.Places.{Places}

abbrev pub places_view : Places → PlacesAt
places_view places = record {
  found = string_bytes places.found;
  pkg_dir = string_bytes places.pkg_dir;
  folder = string_bytes places.place.folder;
  journal = string_bytes places.place.journal;
  older_folder = string_bytes places.older.folder;
  older = string_bytes places.older.journal;
  lockfile = string_bytes places.lockfile;
  copy = string_bytes places.copy;
}
