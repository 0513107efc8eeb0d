-- What only private functions of the crate promise each other.
use Rattle.std.specs.Prelude.{◌≡◌, List, IsTrue, Contains, ◌⊎◌}
use Rattle.hack_base.specs.Names.{Name}
use Rattle.hack_routes.specs.NameSets.{NameSet, has_name}

-- a name of the group is x or in the set
pub record IsServedBy (group : List Name) (x : Name) (s : NameSet) : Type 0 where
  pub name : Name
  pub member : Contains group name
  pub has : (name ≡ x) ⊎ IsTrue (has_name s name)
