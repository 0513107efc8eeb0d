use Rattle.std.proofs.Common.{◌∙◌}
use Rattle.hack_base.proofs.NumberLemmas.{number-parses}
use Rattle.hack_rules.proofs.values.whole.Goals as goal

pub returns : goal.returns
returns c = c.ok.ensures.value ∙ number-parses 64 c.args.text.now c.parse.result c.parse.ensures.value.0
