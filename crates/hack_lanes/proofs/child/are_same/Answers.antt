use Rattle.std.proofs.Common.{sym, ◌∙◌}
use Rattle.hack_lanes.proofs.NameLemmas.{same-names}
use Rattle.hack_lanes.proofs.child.are_same.Goals as goal

pub returns : goal.returns
returns c same = same-names c.args.some.now c.args.others.now (sym c.eq.ensures ∙ same)
