use Rattle.std.proofs.Common.{ap, ◌∙◌}
use Rattle.hack_rules.specs.CliLists.{same_names}
use Rattle.hack_base.specs.Names.{names_of}
use Rattle.hack_rules.proofs.GroupLemmas.{same-names}
use Rattle.hack_rules.proofs.named.is_named.Goals as goal

pub returns : goal.returns
returns c = c.eq.ensures ∙ same-names c.args.names.now c.as_group.result.now ∙ ap (λ ns. same_names (names_of c.args.names.now) ns) c.as_group.ensures
