use Rattle.std.proofs.Common.{sym}
use Rattle.hack_plan.proofs.Never.{never-alone, never-if}
use Rattle.hack_plan.proofs.places.InputPlaces.new.Goals as goal

pub returns-in-None-clause-never : goal.returns-in-None-clause-never
returns-in-None-clause-never c = never-alone c.args.input.now c.args.counts.now c.args.versions.now.stable c.without_range.result (λ p. p.entries) (sym c.in-None.is) c.without_range.ensures.ok c.without_range.ensures.short

pub returns-in-Some-clause-never : goal.returns-in-Some-clause-never
returns-in-Some-clause-never c = never-if c.args.input.now c.args.counts.now c.args.versions.now.stable c.with_range.result (λ p. p.entries) c.with_range.ensures.ok c.with_range.ensures.short
