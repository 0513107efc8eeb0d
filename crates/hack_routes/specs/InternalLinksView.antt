-- What `Links` shows.
use Rattle.std.specs.Prelude.{◌≡◌, ◌≤◌, List, length}
use Rattle.hack_base.specs.Names.{Name}
use Rattle.hack_routes.specs.FeatureMap.{FeatureMap}
use Rattle.hack_samples.specs.Sets.{rows_of}
use Rattle.hack_routes.specs.InternalPlaces.{HasPlaces, AreRows}
use Rattle.hack_routes.specs.InternalNamesView.{table}
use Rattle.hack_routes.specs.declared.links.Links.{Links}
use Rattle.hack_routes.specs.declared.reach.Edges.{Edges}

-- the names of links, by place
abbrev pub table_of : Links → List Name
table_of links = table links.names

-- the links so far: a row for each name of a front of the table
pub record IsLinking (edges : Edges) (m : FeatureMap) (links : Links) : Type 0 where
  pub step : HasPlaces (table_of links) links.names.places
  pub rows : AreRows edges m (table_of links) links.keys.items (rows_of links.rows.items)
  pub room : length links.rows.items ≤ length (table_of links)

-- the links have a row for each name
pub record AreLinks (edges : Edges) (m : FeatureMap) (links : Links) : Type 0 where
  pub linking : IsLinking edges m links
  pub all : length links.rows.items ≡ length (table_of links)
