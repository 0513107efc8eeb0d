use Rattle.std.proofs.Common.{◌∙◌, List, Option, Global, String, ap, not, option_map, string_bytes}
use Rattle.std.specs.Prelude.{Vec, filter}
use Rattle.hack_features.specs.Feature.{groups_of}
use Rattle.hack_base.specs.Names.{Name, names_of}
use Rattle.hack_planner.specs.PackageRules.{call_rules, is_lifted}
use Rattle.hack_planner.proofs.PackageRuleLemmas.{names-mapped}
use Rattle.hack_planner.proofs.package_rules.PackageRules.of_call.Goals as goal

pub returns : goal.returns
returns c =
    let args = c.args.args.now in
    let included = c.in_ok-feature_copies.ensures ∙ ap groups_of c.deref.ensures.value in
    let excluded = c.in_ok-copies.ensures ∙ ap names_of c.deref-2.ensures.value in
    let grouped = c.in_ok-feature_copies-2.ensures ∙ ap groups_of c.deref-3.ensures.value in
    let optional = c.in_ok-optional_copies.ensures ∙ ap (option_map names_of) c.as_deref.ensures.value ∙ names-mapped args.optional_deps in
    let exclusive = c.in_ok-held_groups.ensures ∙ ap (λ (n : Name). filter (λ group. not (is_lifted args n group)) (groups_of args.mutually_exclusive_features.items)) c.as_str.ensures.value in
    let needed = c.in_ok-feature_copies-3.ensures ∙ ap groups_of c.deref-4.ensures.value in
    let e = names_of c.in_ok-copies.field-0.items in
    let g = groups_of c.in_ok-feature_copies-2.field-0.items in
    let o = option_map (λ (names : Vec (String Global) Global). names_of names.items) c.in_ok-optional_copies.field-0 in
    let x = groups_of c.in_ok-held_groups.field-0.items in
    let r = call_rules args (string_bytes c.args.pkg.now.name) in
    ap (λ (l : List (List Name)). record r { include_features = l; exclude_features = e; group_features = g; optional_deps = o; exclusive = x; at_least_one_of = groups_of c.in_ok-feature_copies-3.field-0.items }) included
    ∙ ap (λ (l : List Name). record r { exclude_features = l; group_features = g; optional_deps = o; exclusive = x; at_least_one_of = groups_of c.in_ok-feature_copies-3.field-0.items }) excluded
    ∙ ap (λ (l : List (List Name)). record r { group_features = l; optional_deps = o; exclusive = x; at_least_one_of = groups_of c.in_ok-feature_copies-3.field-0.items }) grouped
    ∙ ap (λ (l : Option (List Name)). record r { optional_deps = l; exclusive = x; at_least_one_of = groups_of c.in_ok-feature_copies-3.field-0.items }) optional
    ∙ ap (λ (l : List (List Name)). record r { exclusive = l; at_least_one_of = groups_of c.in_ok-feature_copies-3.field-0.items }) exclusive
    ∙ ap (λ (l : List (List Name)). record r { at_least_one_of = l }) needed
