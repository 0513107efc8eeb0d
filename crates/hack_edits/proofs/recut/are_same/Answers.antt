use Rattle.std.proofs.Common.{sym, ◌∙◌}
use Rattle.hack_edits.proofs.RecutLemmas.{same-names}
use Rattle.hack_edits.proofs.recut.are_same.Goals as goal

pub returns : goal.returns
returns c same = same-names c.args.names.now c.args.others.now (sym c.eq.ensures ∙ same)
