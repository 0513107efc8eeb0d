use Rattle.std.proofs.Common.{◌∙◌, ap, sym, length, arith}
use Rattle.hack_plan.proofs.BlockLemmas.{length-entries_of}
use Rattle.hack_plan.proofs.blocks.Blocks.len.Goals as goal

pub returns-clause-value : goal.returns-clause-value
returns-clause-value c = c.self.invariant.all ∙ sym (length-entries_of c.self.inside.blocks.items) ∙ ap length c.self.view_is

pub returns-clause-short : goal.returns-clause-short
returns-clause-short c = omega (arith, c.self.invariant.short, c.self.invariant.all, length-entries_of c.self.inside.blocks.items, ap length c.self.view_is)
