use Rattle.std.proofs.Common.{◌≡◌, ◌++◌, ◌∷◌, [], ap, refl, rules, subst, sym, ◌∙◌}
use Rattle.hack_plan.specs.Growth.{with_run}
use Rattle.hack_culprits.specs.Built.{run_for, step_at}
use Rattle.hack_culprits.specs.Internal.{BuildsOne, made_in}
use Rattle.hack_culprits.specs.declared.built.Built.{Built}
use Rattle.hack_culprits.proofs.BuildLemmas.{built_now, made_push, refused_build, refused_growth}
use Rattle.hack_culprits.proofs.builder.Builder.run.Goals as goal

pub returns-in_err-reserve-clause-built : goal.returns-in_err-reserve-clause-built
returns-in_err-reserve-clause-built g c = λ set ready fits fresh.
    let self = c.args.self.now in
    refused_build g.R.Runner.ran g.R.Judge.ended self.aim set c.from_residual.result (made_in self.aim.plain self.built.now.items) (made_in self.aim.plain c.reserve.new.self.items) self.plan.now self.plan.now self.runner.now
    c.from_residual.ensures.1 (ap (made_in self.aim.plain) c.reserve.ensures.items) refl ready

pub returns-in_err-run-clause-built : goal.returns-in_err-run-clause-built
returns-in_err-run-clause-built g c = λ set ready fits fresh.
    let self = c.args.self.now in
    refused_build g.R.Runner.ran g.R.Judge.ended self.aim set c.from_residual-in_err-run.result (made_in self.aim.plain self.built.now.items) (made_in self.aim.plain c.reserve.new.self.items) self.plan.now self.plan.now self.runner.now
    c.from_residual-in_err-run.ensures.1 (ap (made_in self.aim.plain) c.reserve.ensures.items) refl ready

pub returns-in_err-place-clause-built : goal.returns-in_err-place-clause-built
returns-in_err-place-clause-built g c = λ set ready fits fresh.
    let self = c.args.self.now in
    refused_growth g.R.Runner.ran g.R.Judge.ended self.aim set c.from_residual-in_err-place.result c.in_err-place.field-0.0 (made_in self.aim.plain self.built.now.items) (made_in self.aim.plain c.reserve.new.self.items) self.plan.now c.grow.new.self
    self.runner.now c.from_residual-in_err-place.ensures.1 (ap (made_in self.aim.plain) c.reserve.ensures.items) c.in_err-place.ensures.same c.in_err-place.ensures.err ready

pub returns-clause-built : goal.returns-clause-built
returns-clause-built g c = λ set ready fits fresh.
    let self = c.args.self.now in
    let aim = self.aim in
    let run = run_for aim.plain c.args.build in
    let outcome = c.step-outcome.result in
    let one : Built = record { build = c.args.build; outcome = outcome } in
    let items : c.push.new.self.items ≡ self.built.now.items ++ one ∷ [] = search rules in
    let grown : c.grow.new.self ≡ with_run aim.slot aim.member run self.plan.now = c.in_ok-place.ensures.ok ∙ ap (λ r. with_run aim.slot aim.member r self.plan.now) c.in_ok-run.ensures in
    subst (λ came. BuildsOne g.R.Runner.ran g.R.Judge.ended aim set came (made_in aim.plain self.built.now.items) (made_in aim.plain c.push.new.self.items) self.plan.now c.grow.new.self self.runner.now c.step-outcome.new.runner) (sym c.told.ensures)
    (built_now g.R.Runner.ran g.R.Judge.ended aim set run outcome (made_in aim.plain self.built.now.items) (made_in aim.plain c.push.new.self.items) self.plan.now c.grow.new.self self.runner.now c.step-outcome.new.runner fits fresh
    (made_push aim.plain self.built.now.items c.push.new.self.items one items) grown
    (subst (λ place. g.R.Runner.ran c.grow.new.self (step_at place (record { run = run; outcome = outcome }) ∷ []) self.runner.now c.step-outcome.new.runner) c.in_ok-place.ensures.place (c.step-outcome.ensures.ran run)) c.step-outcome.ensures.tells ready)
