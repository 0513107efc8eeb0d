-- The runs that come before those of the sets.
use Rattle.std.specs.Prelude.{List, map}
use Rattle.hack_plan.specs.declared.runs.Front.{Front}
use Rattle.hack_plan.specs.declared.runs.Front.TheVariants as code
use Rattle.hack_plan.specs.Runs.{PackageRun, Plain, AllFeatures, NoDefaultFeatures}

-- the run that the code's value denotes
abbrev pub front_run : Front → PackageRun
front_run code.Plain = Plain
front_run code.AllFeatures = AllFeatures
front_run code.NoDefaultFeatures = NoDefaultFeatures

-- the runs that the code's values denote
abbrev pub fronts : List Front → List PackageRun
fronts front = map front_run front
