use Rattle.std.proofs.Common.{ap, ◌∙◌, Err}
use Rattle.std.proofs.lemmas.Result.{err_from_is_err_and}
use Rattle.hack_session.specs.StepOutput.{manner_on}
use Rattle.hack_session.proofs.EffectLemmas.{skip_refused, skipped}
use Rattle.hack_session.proofs.perform.skip.Goals as goal

pub returns-in_err-run-clause-says : goal.returns-in_err-run-clause-says
returns-in_err-run-clause-says g c =
    let p = err_from_is_err_and c.from_residual.result c.from_residual.ensures.1 in
    skip_refused c.from_residual.result (manner_on c.args.screen.now) c.args.plan.now c.args.place _ _ c.requires (p.1 ∙ ap Err p.2) c.space.ensures.says

pub returns-in_err-text-clause-says : goal.returns-in_err-text-clause-says
returns-in_err-text-clause-says g c =
    let p = err_from_is_err_and c.from_residual-in_err-text.result c.from_residual-in_err-text.ensures.1 in
    skip_refused c.from_residual-in_err-text.result (manner_on c.args.screen.now) c.args.plan.now c.args.place _ _ c.requires (p.1 ∙ ap Err p.2) c.space.ensures.says

pub returns-clause-says : goal.returns-clause-says
returns-clause-says g c =
    skipped (manner_on c.args.screen.now) c.args.plan.now c.args.place c.in_ok-run.run'.entry (manner_on c.space.new.self) (manner_on c.open-guard.new.self) c.deref.result.now _ _ _ _
    c.in_ok-run.ensures.entry c.space.ensures.screen.manner c.open-guard.ensures.screen.manner (c.deref.ensures ∙ c.in_ok-text.ensures) c.space.ensures.says c.open-guard.ensures.says c.close.ensures.says
