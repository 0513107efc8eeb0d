use Rattle.std.specs.Prelude.{◌≡◌, Some, IfSome}
use Rattle.std.proofs.Common.{subst, sym, ◌∙◌}
use Rattle.hack_options.specs.declared.table.TheConstants.{ALL}
use Rattle.hack_options.specs.Table.{entry_of}
use Rattle.hack_options.specs.Find.{short_option}
use Rattle.hack_options.proofs.Law.{short_option-letter, lettered-letter}
use Rattle.hack_options.proofs.find.short.Goals as goal

pub returns-clause-each : goal.returns-clause-each
returns-clause-each c option = (
  λ found. subst (λ r. IfSome r (λ o. (entry_of o).letter ≡ Some c.args.letter)) (sym c.find_letter.ensures ∙ found) (lettered-letter c.args.letter ALL),
  λ is. c.find_letter.ensures ∙ subst (λ letter. IfSome letter (λ l. short_option l ≡ Some option)) is (short_option-letter option),
)
