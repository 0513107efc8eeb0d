use Rattle.std.proofs.Common.{◌∙◌, sym, get_or, []}
use Rattle.hack_samples.specs.Sets.{tables_of}
use Rattle.hack_samples.proofs.SetLemmas.{has_each-inside}
use Rattle.hack_samples.proofs.search.hold_setting.Goals as goal

pub returns-then-setting-clause-shows : goal.returns-then-setting-clause-shows
returns-then-setting-clause-shows c = λ t inside clear.
    has_each-inside c.args.set.now t (get_or (tables_of c.args.wanted.now.providers.now) c.args.setting.candidate []) inside (c.requires.shown ∙ c.if-setting.true) ∙ sym c.if-setting.true
