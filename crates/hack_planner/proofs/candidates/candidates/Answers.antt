use Rattle.std.proofs.Common.{◌≡◌, ◌∙◌, ◌++◌, List, length, true, ap, sym}
use Rattle.std.proofs.lemmas.List.{map-append}
use Rattle.std.specs.Prelude.{filter, ◌&&◌, ◌==◌}
use Rattle.hack_features.specs.Feature.{group_of, groups_of}
use Rattle.hack_base.specs.Names.{Name}
use Rattle.hack_planner.specs.Candidates.{stays, is_asked}
use Rattle.hack_planner.specs.PackageRules.{rules_in}
use Rattle.hack_planner.proofs.CandidateLemmas.{four-lists}
use Rattle.hack_planner.proofs.candidates.candidates.Goals as goal

pub returns : goal.returns
returns c =
    let w = (rules_in c.args.asked.now) in
    let found = c.in_ok-found.found.items in
    let optional = c.in_ok-optional.optional.items in
    let of_deps = c.in_ok-of_deps.of_deps.items in
    let groups = c.in_ok-groups.groups.items in
    let g : List (List Name) = groups_of groups in
    let bare : (length w.include_features == 0) ≡ true =
    ap (λ l. length (groups_of l) == 0) (sym c.deref.ensures.value) ∙ sym c.has_no_feature.ensures ∙ c.if-not-has_no_feature.false in
    four-lists w c.args.features.now (groups_of found) (groups_of optional) (groups_of of_deps) g _ bare
    (c.in_ok-found.ensures ∙ ap (λ l. filter (stays w) (groups_of l)) c.normal.ensures)
    (c.in_ok-optional.ensures ∙ ap (λ l. filter (λ names. is_asked w names && stays w names) (groups_of l)) c.optional_deps.ensures)
    (c.in_ok-of_deps.ensures ∙ ap (λ l. filter (λ names. w.include_deps_features && stays w names) (groups_of l)) c.deps_features.ensures)
    c.in_ok-groups.ensures
    (ap groups_of c.in_ok-append-3.ensures.items ∙ map-append group_of c.append-2.new.self.items groups
    ∙ ap (λ t. t ++ g) (ap groups_of c.in_ok-append-2.ensures.items ∙ map-append group_of c.append.new.self.items of_deps
    ∙ ap (λ t. t ++ groups_of of_deps) (ap groups_of c.in_ok-append.ensures.items ∙ map-append group_of found optional)))
