use Rattle.std.proofs.Common.{◌≡◌, ◌∙◌, None, Option, ap}
use Rattle.std.specs.Option.{option_or}
use Rattle.hack_base.specs.Names.{Name, names_of}
use Rattle.hack_features.specs.Feature.{groups_of}
use Rattle.hack_planner.specs.PackageRules.{rules_in}
use Rattle.hack_planner.specs.RulesFor.{first_excluded, first_of_excluded}
use Rattle.hack_planner.proofs.tables.excluded_by.Goals as goal

pub returns-in-None : goal.returns-in-None
returns-in-None c =
    let given = names_of c.args.given.now in
    let r = rules_in c.args.rules.now in
    let none : None ≡ first_excluded given r.exclude_features r.group_features =
    c.in-None.ensures
    ∙ ap (λ l. first_excluded given (names_of l) (groups_of c.deref-2.result.now)) c.deref.ensures.value
    ∙ ap (λ l. first_excluded given r.exclude_features (groups_of l)) c.deref-2.ensures.value in
    c.first_of_excluded.ensures
    ∙ ap (λ l. first_of_excluded given (names_of l) (groups_of c.deref-in-None-2.result.now)) c.deref-in-None.ensures.value
    ∙ ap (λ l. first_of_excluded given r.exclude_features (groups_of l)) c.deref-in-None-2.ensures.value
    ∙ ap (λ (o : Option Name). option_or o (first_of_excluded given r.exclude_features r.include_features)) none
