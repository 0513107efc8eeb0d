-- Why the packages of a call aren't known.
use Rattle.std.specs.Prelude.{List, string_bytes}
use Rattle.hack_planner.specs.declared.fault.PackagesFault.{PackagesFault}
use Rattle.hack_planner.specs.declared.fault.PackagesFault.TheVariants.{Memory, Unmatched}
use Rattle.hack_words.specs.declared.cli.args.Args.{Args}
use Rattle.hack_planner.specs.Members.{Member, IsUnmatched}

-- why the packages of a call aren't known: a specification that matches no member
abbrev pub IsListFault : Args → List Member → PackagesFault → Type 0
IsListFault args members Memory = ⊥
IsListFault args members (Unmatched spec) = IsUnmatched args members (string_bytes spec)
