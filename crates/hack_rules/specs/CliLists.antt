-- The lists that uses of options give.
use Rattle.std.specs.Prelude.{ℕ, List, [], ◌&&◌, Bool, false, Option, Some, None, length, map, nat_lt, bytes_eq, option_and_then, if◌then◌else◌}
use Rattle.std.specs.Cmp.Lexicographic.{pointwise}
use Rattle.std.specs.List.{flat_map, list_any}
use Rattle.std.specs.Option.{option_map_or}
use Rattle.hack_options.specs.declared.opt.Opt.{Opt}
use Rattle.hack_options.specs.declared.opt.Opt.TheVariants as opt
use Rattle.hack_rules.specs.Uses.{Use, is_given}
use Rattle.hack_rules.specs.Values.{value_given, values_given}
use Rattle.hack_base.specs.Cuts.{front_of, rest_of}
use Rattle.hack_base.specs.Lists.{is_list, group_names, list_names, without_quotes}

-- the names in all lists of an option, in order
abbrev pub names_given : Opt → List Use → List (List ℕ)
names_given o us = flat_map list_names (values_given o us)

-- the names in each use of an option that gives groups
abbrev pub groups_given : Opt → List Use → List (List (List ℕ))
groups_given o us = map group_names (values_given o us)

-- the names of the optional dependencies, where the option is used; empty names count
abbrev pub optional_given : List Use → Option (List (List ℕ))
optional_given us =
    if is_given opt.OptionalDeps us
    then Some (option_map_or (λ text. group_names (without_quotes text)) (value_given opt.OptionalDeps us) [])
    else None

-- an exclusion group that is lifted for a package
pub record Lift : Type 0 where
  pub owner : List ℕ
  pub group : List (List ℕ)

-- PACKAGE=FEATURES, split at its first `=`, with a package and two features or more
abbrev pub lift_of : List ℕ → Option Lift
lift_of text =
    option_and_then (λ features. if nat_lt 0 (length (front_of 61 text)) && is_list features
    then Some (record { owner = front_of 61 text; group = group_names features }) else None) (rest_of 61 text)

-- the same names in the same order
abbrev pub same_names : List (List ℕ) → List (List ℕ) → Bool
same_names xs ys = pointwise bytes_eq xs ys

-- a text lifts a group whose names are those of one of these groups
abbrev pub lifts_one_of : List (List (List ℕ)) → List ℕ → Bool
lifts_one_of groups text = option_map_or (λ l. list_any (same_names l.group) groups) (lift_of text) false
