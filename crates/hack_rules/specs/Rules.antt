-- The parts that rules on uses of options are made of, each with the error that it gives, if any.
use Rattle.std.specs.Prelude.{ℕ, ◌&&◌, ◌||◌, not, List, [], ◌∷◌, Bool, Option, Some, None, length, nat_lt, bytes_eq, if◌then◌else◌}
use Rattle.std.specs.List.{list_any}
use Rattle.std.specs.Option.{option_or}
use Rattle.hack_options.specs.declared.opt.Opt.{Opt}
use Rattle.hack_options.specs.declared.opt.Opt.TheVariants as opt
use Rattle.hack_rules.specs.Uses.{Use, is_given}
use Rattle.hack_rules.specs.CliLists.{names_given}
use Rattle.hack_rules.specs.declared.fault.Beside.{Beside}
use Rattle.hack_rules.specs.declared.fault.Beside.TheVariants as beside
use Rattle.hack_rules.specs.CliFaults.{Fault, Needs, Clash}

-- an error where a test is true
abbrev pub fault_if : Bool → Fault → Option Fault
fault_if b fault = if b then Some fault else None

-- the first of some errors
abbrev pub first_of : List (Option Fault) → Option Fault
first_of [] = None
first_of (fault ∷ faults) = option_or fault (first_of faults)

-- an option counts where it is given; a list of features to run with, to include or to exclude
-- counts where it has a name
abbrev pub counts : Opt → List Use → Bool
counts opt.Features us = nat_lt 0 (length (names_given opt.Features us))
counts opt.IncludeFeatures us = nat_lt 0 (length (names_given opt.IncludeFeatures us))
counts opt.ExcludeFeatures us = nat_lt 0 (length (names_given opt.ExcludeFeatures us))
counts option us = is_given option us

-- one of the options counts that an error calls so
abbrev pub has_beside : Beside → List Use → Bool
has_beside beside.FeatureLists us =
    counts opt.Features us || counts opt.IncludeFeatures us || is_given opt.GroupFeatures us
has_beside beside.EachOrPowerset us = is_given opt.EachFeature us || is_given opt.FeaturePowerset us
has_beside beside.Powerset us = is_given opt.FeaturePowerset us
has_beside beside.VersionRange us = is_given opt.VersionRange us || is_given opt.RustVersion us
has_beside beside.Partition us = is_given opt.Partition us
has_beside beside.MutuallyExclusive us = is_given opt.MutuallyExclusiveFeatures us
has_beside beside.FindConflicts us = is_given opt.FindConflicts us

-- the error of an option that counts, where none of those counts that it needs
abbrev pub needs : Opt → Beside → List Use → Option Fault
needs option others us =
    fault_if (counts option us && not (has_beside others us)) (Needs option others)

-- the error of two options that exclude each other
abbrev pub clash : Opt → Opt → List Use → Option Fault
clash option other us = fault_if (is_given option us && is_given other us) (Clash option other)

-- the name is one of these
abbrev pub is_among : List (List ℕ) → List ℕ → Bool
is_among names name = list_any (λ one. bytes_eq one name) names
