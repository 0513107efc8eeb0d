use Rattle.hack_rules.proofs.One.{gives-no-other}
use Rattle.hack_rules.proofs.uses.cut.all_uses.Goals as goal

pub returns-clause-one : goal.returns-clause-one
returns-clause-one c = gives-no-other c.cut_all.result _ c.cut_all.ensures
