-- Runs that are added one by one.
use Rattle.hack_plan.specs.declared.runs.Added.{Added}
use Rattle.hack_plan.specs.declared.runs.Added.TheVariants as code
use Rattle.hack_plan.specs.Runs.{PackageRun, Plain, AllFeatures, NoDefaultFeatures, Set}

-- the run that an added one denotes
abbrev pub added_run : Added → PackageRun
added_run code.Plain = Plain
added_run code.AllFeatures = AllFeatures
added_run code.NoDefaultFeatures = NoDefaultFeatures
added_run (code.Features positions) = Set positions.items
