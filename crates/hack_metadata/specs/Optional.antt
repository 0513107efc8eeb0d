-- Optional dependencies, which are features.
use Rattle.std.specs.Prelude.{List, Option, Some, None, unwrap_or, if◌then◌else◌}
use Rattle.std.specs.List.{filter_map}
use Rattle.hack_base.specs.Names.{Name}
use Rattle.hack_metadata.specs.Records.{DependencyRecord}

-- the feature that a dependency is, where it is optional: its rename, else its name
abbrev pub feature_of : DependencyRecord → Option Name
feature_of d = if d.optional then Some (unwrap_or d.rename d.name) else None

-- the features that dependencies are, in order
abbrev pub optional_in : List DependencyRecord → List Name
optional_in ds = filter_map feature_of ds
