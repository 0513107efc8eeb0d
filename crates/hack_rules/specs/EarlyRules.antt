-- The rules that are checked before the one on a missing subcommand.
use Rattle.std.specs.Prelude.{ℕ, ◌&&◌, ◌||◌, not, List, [], ◌∷◌, map, Bool, Option, Some, None, codes, nat_eq, bytes_eq, option_map, option_and_then, if◌then◌else◌}
use Rattle.std.specs.List.{find, flat_map, list_any, starts_with}
use Rattle.std.specs.Option.{is_none, option_map_or, unwrap_or}
use Rattle.hack_options.specs.declared.opt.Opt.{Opt}
use Rattle.hack_options.specs.declared.opt.Opt.TheVariants as opt
use Rattle.hack_rules.specs.declared.uses.behavior.WorkspaceBehavior.{WorkspaceBehavior}
use Rattle.hack_rules.specs.Behavior.{is_cargo}
use Rattle.hack_rules.specs.PassedWords.{leading_of}
use Rattle.hack_rules.specs.Uses.{Use, is_given, subcommand_of}
use Rattle.hack_rules.specs.Values.{from_value, value_given, values_given}
use Rattle.hack_rules.specs.declared.fault.Beside.TheVariants as beside
use Rattle.hack_rules.specs.CliFaults.{Fault, Color, TermColor, Number, Single, BesideSubcommand, Install, Clash, ClashWord, Excluded}
use Rattle.hack_rules.specs.CliLists.{groups_given, names_given, optional_given}
use Rattle.hack_base.specs.Numbers.{number_of}
use Rattle.hack_term.specs.Lines.{coloring_of}
use Rattle.hack_base.specs.Lists.{is_list}
use Rattle.hack_rules.specs.Rules.{counts, fault_if, first_of, needs, clash, is_among}

-- the option that leaves dev-dependencies out, if one is given
abbrev pub without_dev_deps : List Use → Option Opt
without_dev_deps us = find (λ option. is_given option us) (opt.RemoveDevDeps ∷ opt.NoDevDeps ∷ [])

-- test and bench need dev-dependencies, and the subcommand install is refused
abbrev pub subcommand_rule : List Use → List ℕ → Option Fault
subcommand_rule us word =
    if bytes_eq word (codes "test") || bytes_eq word (codes "bench")
    then option_map (λ option. BesideSubcommand option word) (without_dev_deps us)
    else fault_if (bytes_eq word (codes "install")) Install

-- an argument for cargo that selects targets which need dev-dependencies, or a target by its name
abbrev pub selects_targets : List ℕ → Bool
selects_targets w =
    list_any (bytes_eq w) (codes "--example" ∷ codes "--examples" ∷ codes "--test" ∷ codes "--tests"
    ∷ codes "--bench" ∷ codes "--benches" ∷ codes "--all-targets" ∷ [])
    || list_any (starts_with nat_eq w) (codes "--example=" ∷ codes "--test=" ∷ codes "--bench=" ∷ [])

-- one of the groups has this name
abbrev pub is_in_group : List (List (List ℕ)) → List ℕ → Bool
is_in_group groups name = list_any (λ group. is_among group name) groups

-- the first option that names this feature
abbrev pub option_naming : List Use → List ℕ → Option Opt
option_naming us name =
    if is_among (names_given opt.Features us) name then Some opt.Features
    else if is_among (unwrap_or (optional_given us) []) name then Some opt.OptionalDeps
    else if is_in_group (groups_given opt.GroupFeatures us) name then Some opt.GroupFeatures
    else if is_in_group (groups_given opt.MutuallyExclusiveFeatures us) name
    then Some opt.MutuallyExclusiveFeatures
    else if is_among (names_given opt.IncludeFeatures us) name then Some opt.IncludeFeatures
    else None

-- the rules on colour, on options that need lists or runs by features, and on the depth
abbrev pub early_rules : Option (List ℕ) → List Use → List (Option Fault)
early_rules term_color us =
    option_map_or (λ said. fault_if (is_none (coloring_of said)) (Color said))
    (value_given opt.Color us)
    (option_and_then (λ found. fault_if (is_none (coloring_of found)) (TermColor found)) term_color)
    ∷ needs opt.IgnoreUnknownFeatures beside.FeatureLists us
    ∷ first_of (map (λ o. needs o beside.EachOrPowerset us)
    (opt.OptionalDeps ∷ opt.ExcludeFeatures ∷ opt.ExcludeNoDefaultFeatures ∷ opt.ExcludeAllFeatures
    ∷ opt.IncludeFeatures ∷ opt.IncludeDepsFeatures ∷ []))
    ∷ first_of (map (λ o. needs o beside.Powerset us)
    (opt.Depth ∷ opt.GroupFeatures ∷ opt.MutuallyExclusiveFeatures ∷ opt.AtLeastOneOf ∷ []))
    ∷ from_value opt.Depth (λ text. fault_if (is_none (number_of 64 text)) (Number text)) us
    ∷ []

-- the rules on groups, and on options that exclude each other
abbrev pub together_rules : WorkspaceBehavior → List Use → List (Option Fault)
together_rules behavior us =
    first_of (map (λ o. fault_if (list_any (λ text. not (is_list text)) (values_given o us))
    (Single o)) (opt.GroupFeatures ∷ opt.MutuallyExclusiveFeatures ∷ opt.AtLeastOneOf ∷ []))
    ∷ option_and_then (subcommand_rule us) (subcommand_of us)
    ∷ first_of (map (λ o. fault_if (is_cargo behavior && is_given o us)
    (Clash opt.WorkspaceBehavior o)) (opt.EachFeature ∷ opt.FeaturePowerset ∷ []))
    ∷ option_and_then (λ word. option_map (λ option. ClashWord option word) (without_dev_deps us))
    (find selects_targets (leading_of behavior us))
    ∷ first_of (map (λ o. fault_if (counts opt.IncludeFeatures us && is_given o us)
    (Clash opt.IncludeFeatures o)) (opt.OptionalDeps ∷ opt.IncludeDepsFeatures ∷ []))
    ∷ first_of (clash opt.NoDevDeps opt.RemoveDevDeps us
    ∷ clash opt.EachFeature opt.FeaturePowerset us ∷ flat_map (λ o. clash o opt.EachFeature us
    ∷ clash o opt.FeaturePowerset us ∷ []) (opt.AllFeatures ∷ opt.NoDefaultFeatures ∷ []))
    ∷ first_of (map (λ name. option_map (Excluded name) (option_naming us name))
    (names_given opt.ExcludeFeatures us))
    ∷ []
