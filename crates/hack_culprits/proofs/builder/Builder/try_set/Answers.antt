use Rattle.std.proofs.Common.{◌≢◌, All, Contains, List, refl, subst, sym}
use Rattle.hack_culprits.specs.Built.{Made, run_for}
use Rattle.hack_culprits.specs.Internal.{BuildsOne, made_in}
use Rattle.hack_culprits.specs.declared.built.Built.{Built}
use Rattle.hack_culprits.proofs.BuildLemmas.{built_before, refused_build}
use Rattle.hack_culprits.proofs.builder.Builder.try_set.Goals as goal

pub returns-in_err-build-clause-built : goal.returns-in_err-build-clause-built
returns-in_err-build-clause-built g c = λ ready choice.
    let self = c.args.self.now in
    refused_build g.R.Runner.ran g.R.Judge.ended self.aim c.args.set.now c.from_residual.result (made_in self.aim.plain self.built.now.items) (made_in self.aim.plain self.built.now.items) self.plan.now self.plan.now self.runner.now c.from_residual.ensures.1 refl refl
    ready

pub returns-in-Some-clause-built : goal.returns-in-Some-clause-built
returns-in-Some-clause-built g c = λ ready choice.
    let self = c.args.self.now in
    let built = made_in self.aim.plain self.built.now.items in
    let one : Made = record { run = run_for self.aim.plain c.in_ok-build.build; outcome = c.in-Some.outcome } in
    let there : Contains built one = subst (λ (l : List Built). Contains (made_in self.aim.plain l) one) c.as_slice.ensures.value (c.in-Some.ensures self.aim.plain) in
    subst (λ came. BuildsOne g.R.Runner.ran g.R.Judge.ended self.aim c.args.set.now came built built self.plan.now self.plan.now self.runner.now self.runner.now) (sym c.told.ensures)
    (built_before g.R.Runner.ran g.R.Judge.ended self.aim c.args.set.now (run_for self.aim.plain c.in_ok-build.build) c.in-Some.outcome built self.plan.now self.runner.now (c.in_ok-build.build, c.in_ok-build.ensures choice, refl) there ready)

pub returns-in-None-clause-built : goal.returns-in-None-clause-built
returns-in-None-clause-built g c = λ ready choice.
    c.run.ensures.built c.args.set.now ready (c.in_ok-build.build, c.in_ok-build.ensures choice, refl) (subst (λ (l : List Built). All (λ m. m.run ≢ run_for c.args.self.now.aim.plain c.in_ok-build.build) (made_in c.args.self.now.aim.plain l)) c.as_slice.ensures.value (c.in-None.ensures c.args.self.now.aim.plain))
