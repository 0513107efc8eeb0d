use Rattle.std.proofs.Common.{ap, ◌∙◌}
use Rattle.hack_rules.specs.CliLists.{same_names}
use Rattle.hack_base.specs.Names.{names_of}
use Rattle.hack_features.specs.Feature.{group_of}
use Rattle.hack_rules.proofs.GroupLemmas.{same-names}
use Rattle.hack_planner.proofs.package_rules.have_same_names.Goals as goal

pub returns : goal.returns
returns c =
    c.eq.ensures ∙ same-names c.as_group.result.now c.as_group-2.result.now
    ∙ ap (λ ns. same_names ns (names_of c.as_group-2.result.now)) c.as_group.ensures
    ∙ ap (λ ns. same_names (group_of c.args.group.now) ns) c.as_group-2.ensures
