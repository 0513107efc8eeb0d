-- What a package's sets are made of: its candidates, from its features and its rules.
use Rattle.std.specs.Prelude.{◌==◌, ◌++◌, List, [], ◌∷◌, Bool, false, not, ◌&&◌, ◌||◌, Option, Some, filter, map, length, unwrap_or, if◌then◌else◌}
use Rattle.std.specs.List.{list_any, list_all}
use Rattle.std.specs.Option.{option_map_or}
use Rattle.std.specs.Str.{bytes_eq}
use Rattle.hack_base.specs.Names.{Name}
use Rattle.hack_features.specs.Feature.{groups_of}
use Rattle.hack_base.specs.Notes.{Note, warning_note, info_note}
use Rattle.hack_load.specs.declared.features.Features.{Features}
use Rattle.hack_planner.specs.PackageRules.{PackageRulesRecord}
use Rattle.hack_planner.specs.Texts.{feature_text, dependency_text, group_text}

-- one of the names is x
abbrev pub contains_name : List Name → Name → Bool
contains_name names x = list_any (bytes_eq x) names

-- one of the features, or groups, each given by its names, has the name
abbrev pub one_has : List (List Name) → Name → Bool
one_has features x = list_any (λ names. contains_name names x) features

-- the name is no candidate by itself: it is excluded, or in a group
abbrev pub is_taken : PackageRulesRecord → Name → Bool
is_taken r x = contains_name r.exclude_features x
    || one_has r.group_features x

-- a feature of these names stays a candidate by itself
abbrev pub stays : PackageRulesRecord → List Name → Bool
stays r names = list_all (λ x. not (is_taken r x)) names

-- the optional dependency is asked for: the option has its name, or no names at all
abbrev pub is_asked : PackageRulesRecord → List Name → Bool
is_asked r names = option_map_or (λ asked. (length asked == 0)
    || list_any (contains_name asked) names) r.optional_deps false

-- a feature or an optional dependency of the package has the name
abbrev pub is_known : Features → Name → Bool
is_known f x = one_has (groups_of f.normal.items) x || one_has (groups_of f.optional_deps.items) x

-- a group is applied to the package: unknown names aren't ignored, or each of its names is known
abbrev pub applies : PackageRulesRecord → Features → List Name → Bool
applies r f group = not r.ignore_unknown_features || list_all (is_known f) group

-- the candidates of a package: the features to include, if there are any; else its features, the
-- optional dependencies that are asked for, the features of its dependencies, if these are asked
-- for, and the groups that are applied. Features that are excluded or in a group are left out.
abbrev pub candidates : PackageRulesRecord → Features → List (List Name)
candidates r f = if length r.include_features == 0
    then filter (stays r) (groups_of f.normal.items)
    ++ (filter (λ x. is_asked r x && stays r x) (groups_of f.optional_deps.items)
    ++ (filter (λ x. r.include_deps_features && stays r x) (groups_of f.deps_features.items)
    ++ filter (applies r f) r.group_features))
    else filter (stays r) r.include_features

-- a feature of the package, its optional dependencies or its dependencies has the name
abbrev pub is_found : Features → Name → Bool
is_found f x = is_known f x || one_has (groups_of f.deps_features.items) x

-- the names of a list; none if the list is one empty name
abbrev pub names_asked : Option (List Name) → List Name
names_asked (Some ([] ∷ [])) = []
names_asked asked = unwrap_or asked []

-- a warning for each excluded name that the package doesn't have
abbrev pub feature_notes : PackageRulesRecord → Name → Features → List Note
feature_notes r pkg f = map (λ x. warning_note (feature_text pkg x))
    (filter (λ x. not (is_found f x)) r.exclude_features)

-- a warning for each optional dependency that is asked for and that the package doesn't have
abbrev pub dependency_notes : PackageRulesRecord → Name → Features → List Note
dependency_notes r pkg f = map (λ x. warning_note (dependency_text pkg x))
    (filter (λ x. not (one_has (groups_of f.optional_deps.items) x))
    (names_asked r.optional_deps))

-- a notice for each group that isn't applied to the package
abbrev pub group_notes : PackageRulesRecord → Name → Features → List Note
group_notes r pkg f = map (λ names. info_note (group_text pkg names))
    (filter (λ names. not (applies r f names)) r.group_features)

-- the notices about the features of a package of this name, if combinations of features are asked
-- for and none to include are named: names of the call's that a single package doesn't have, and
-- groups of the package's rules that aren't applied
abbrev pub candidate_notes : Bool → PackageRulesRecord → PackageRulesRecord → Name → Features → List Note
candidate_notes single call r pkg f =
    if (call.each_feature || call.feature_powerset) && (length call.include_features == 0)
    then (if single then feature_notes call pkg f ++ dependency_notes call pkg f else [])
    ++ group_notes r pkg f else []
