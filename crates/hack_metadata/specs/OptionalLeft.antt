-- What an iterator over optional dependencies has left.
use Rattle.std.specs.Prelude.{List, map}
use Rattle.hack_base.specs.Names.{Name}
use Rattle.hack_metadata.specs.Optional.{optional_in}
use Rattle.hack_metadata.specs.RecordViews.{dependency_view}
use Rattle.hack_metadata.specs.declared.metadata.package.OptionalDeps.{OptionalDeps}

-- the names that are still to come
abbrev pub names_left : OptionalDeps → List Name
names_left deps = optional_in (map dependency_view deps.left.now)
