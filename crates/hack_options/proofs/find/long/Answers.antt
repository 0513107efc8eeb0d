use Rattle.std.specs.Prelude.{◌≡◌, IfSome}
use Rattle.std.proofs.Common.{ap, subst, sym, ◌∙◌}
use Rattle.hack_options.specs.declared.table.TheConstants.{ALL}
use Rattle.hack_options.specs.Table.{entry_of}
use Rattle.hack_options.specs.Find.{long_option}
use Rattle.hack_options.proofs.Law.{long_option-name, named-name}
use Rattle.hack_options.proofs.find.long.Goals as goal

pub returns-clause-each : goal.returns-clause-each
returns-clause-each c option = (
  λ found. subst (λ r. IfSome r (λ o. (entry_of o).name ≡ c.args.name.now)) (sym c.find_name.ensures ∙ found) (named-name c.args.name.now ALL),
  λ is. c.find_name.ensures ∙ ap long_option (sym is) ∙ long_option-name option,
)
