use denote.Enum.Bare.{same_true, true_same}
use Rattle.std.proofs.Common.{◌∙◌, sym}
use Rattle.hack_options.specs.contracts.opt.Opt.{the_type}
use Rattle.hack_options.proofs.opt.Opt.is.Goals as goal

pub returns-clause-equal : goal.returns-clause-equal
returns-clause-equal c = (
  λ same. same_true the_type tt c.args.self c.args.other (sym c.eq.ensures ∙ same),
  λ one. c.eq.ensures ∙ true_same the_type c.args.self c.args.other one,
)
