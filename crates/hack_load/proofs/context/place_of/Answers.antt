use Rattle.std.proofs.Common.{sym, ◌∙◌}
use Rattle.hack_load.proofs.ContextLemmas.{place-here, place-more, place-none}
use Rattle.hack_load.proofs.context.place_of.Goals as goal

pub returns-then-eq : goal.returns-then-eq
returns-then-eq c = place-here c.args.members.now c.args.id.index c.loop-at.at c.loop-at.invariant _ c.loop-at-test.true (sym c.eq.ensures ∙ c.if-eq.true)

pub loop-at-preserved : goal.loop-at-preserved
loop-at-preserved c = place-more c.args.members.now c.args.id.index c.loop-at.at c.loop-at.invariant _ c.loop-at-test.true (sym c.eq.ensures ∙ c.if-eq.false)

pub returns : goal.returns
returns c = place-none c.args.members.now c.args.id.index c.loop-at.at c.loop-at.invariant c.loop-at-test.false
