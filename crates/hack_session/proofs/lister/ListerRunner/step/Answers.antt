use Rattle.std.proofs.Common.{Err, ap, arith, inl, inr, refl}
use Rattle.hack_session.proofs.ListLemmas.{one_listed, one_sent}
use Rattle.hack_session.specs.declared.step.Outcome.TheVariants.{Failed, Passed}
use Rattle.hack_session.proofs.lister.ListerRunner.step.Goals as goal

pub returns-then-is_performed : goal.returns-then-is_performed
returns-then-is_performed g c =
    let one = one_sent g.W.Lines.whole g.R.Runner.ran c.args.plan.now (record { step = c.args.step; outcome = c.step.result }) c.args.self.now.runner.now _ _ c.if-is_performed.ensures c.step.ensures in
    (refl, refl, one.sent, one.lists, g.met.W.Lines.stays_none c.args.self.now.out.now)

pub returns-in-Ok : goal.returns-in-Ok
returns-in-Ok g c =
    let one = one_listed g.W.Lines.whole g.R.Runner.ran c.args.plan.now (record { step = c.args.step; outcome = Passed }) c.args.self.now.runner.now _ _ c.if-is_performed.ensures (g.met.R.Runner.ran_none c.args.plan.now c.args.self.now.runner.now)
    (inl (record { passes = refl; written = c.in-Ok.ensures.written; counted = c.in-Ok.ensures.counted; kept = refl })) in
    (refl, refl, one.sent, one.lists, c.in-Ok.ensures.stays)

pub returns-in-Err-Unwritten : goal.returns-in-Err-Unwritten
returns-in-Err-Unwritten g c =
    let one = one_listed g.W.Lines.whole g.R.Runner.ran c.args.plan.now (record { step = c.args.step; outcome = Failed }) c.args.self.now.runner.now _ _ c.if-is_performed.ensures (g.met.R.Runner.ran_none c.args.plan.now c.args.self.now.runner.now)
    (inr (inl (record { fails = refl; counted = rw c.in-Err-Unwritten.field-0-is at c.in-Err-Unwritten.ensures.counted; left = c.in-Err-Unwritten.ensures.left (ap Err c.in-Err-Unwritten.field-0-is); kept = refl }))) in
    (refl, refl, one.sent, one.lists, c.in-Err-Unwritten.ensures.stays)

pub returns-in-Err-Memory : goal.returns-in-Err-Memory
returns-in-Err-Memory g c =
    let same = c.in-Err-Memory.ensures.kept (ap Err c.in-Err-Memory.field-0-is) in
    let one = one_listed g.W.Lines.whole g.R.Runner.ran c.args.plan.now (record { step = c.args.step; outcome = Failed }) c.args.self.now.runner.now _ _ c.if-is_performed.ensures (g.met.R.Runner.ran_none c.args.plan.now c.args.self.now.runner.now)
    (inr (inr (record { fails = refl; counted = λ h. omega (arith, c.saturating_add-self.ensures); kept = (ap g.W.Lines.contents same, ap g.W.Lines.failed same) }))) in
    (refl, refl, one.sent, one.lists, c.in-Err-Memory.ensures.stays)
