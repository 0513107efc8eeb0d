-- What `Routes` shows.
use Rattle.std.specs.Prelude.{List}
use Rattle.hack_base.specs.Names.{Name, names_behind}
use Rattle.hack_routes.specs.declared.routes.Routes.{Routes}

-- the names of routes, by place
abbrev pub routed_names : Routes → List Name
routed_names routes = names_behind routes.names.items
