use Rattle.std.proofs.Common.{◌∙◌, sym, ap, map, is_some}
use Rattle.std.proofs.lemmas.Result.{IfOk-weaker}
use Rattle.hack_load.specs.ContextView.{context_view}
use Rattle.hack_base.specs.Notes.{note_of}
use Rattle.hack_words.specs.declared.cli.args.Args.{Args}
use Rattle.hack_planner.specs.CallPlan.{IsPlan, IsPlanOf, IsSureCause, IsSureCauseOf}
use Rattle.hack_planner.specs.declared.fault.PlanFault.{PlanFault}
use Rattle.hack_planner.specs.Powersets.{HavePowersets}
use Rattle.hack_planner.proofs.MadeLemmas.{by-subcommand, of-latest}
use Rattle.hack_planner.proofs.NeverLemmas.{cause-by}
use Rattle.hack_planner.proofs.PowersetLemmas.{powersets}
use Rattle.hack_planner.proofs.PlanSampleLemmas.{samples, patterns}
use Rattle.hack_planner.specs.Samples.{HaveSamples, ArePatternsHeld}
use Rattle.hack_planner.proofs.plan.plan_of.Goals as goal

pub returns-in-Ok-clause-ok : goal.returns-in-Ok-clause-ok
returns-in-Ok-clause-ok c =
    let cx = context_view c.args.cx.now in
    let some = ap (λ (a : Args). is_some a.subcommand) (sym c.args-2.ensures) ∙ c.if-is_none.ensures in
    IfOk-weaker c.plan_by.result (λ answer. IsPlan cx c.args.rustup.now c.in-Ok.latest answer.0 (map note_of answer.1.items))
    (λ answer. IsPlanOf cx.args.subcommand c.args.stable cx c.args.rustup.now answer.0 (map note_of answer.1.items))
    (λ answer h. by-subcommand cx.args.subcommand c.args.stable c.in-Ok.latest cx c.args.rustup.now answer.0 (map note_of answer.1.items) some (sym c.latest.ensures ∙ c.in-Ok.is) h)
    (c.plan_by.ensures.ok c.args.rustup.now c.in_ok-words.ensures)

pub returns-in-Ok-clause-covered : goal.returns-in-Ok-clause-covered
returns-in-Ok-clause-covered c = of-latest c.args.stable c.in-Ok.latest _ (sym c.latest.ensures ∙ c.in-Ok.is) (λ _ powerset each. c.plan_by.ensures.covered c.args.rustup.now c.in_ok-words.ensures powerset each)

pub returns-in-Ok-clause-powersets : goal.returns-in-Ok-clause-powersets
returns-in-Ok-clause-powersets c =
    let cx = context_view c.args.cx.now in
    of-latest c.args.stable c.in-Ok.latest _ (sym c.latest.ensures ∙ c.in-Ok.is) (λ _ powerset.
    IfOk-weaker c.plan_by.result (λ answer. IsPlan cx c.args.rustup.now c.in-Ok.latest answer.0 (map note_of answer.1.items)) (λ answer. HavePowersets cx c.in-Ok.latest answer.0)
    (λ answer h. powersets cx c.in-Ok.latest answer.0 h.performed.base powerset)
    (c.plan_by.ensures.ok c.args.rustup.now c.in_ok-words.ensures))

pub returns-in-Ok-clause-samples : goal.returns-in-Ok-clause-samples
returns-in-Ok-clause-samples c =
    let cx = context_view c.args.cx.now in
    of-latest c.args.stable c.in-Ok.latest _ (sym c.latest.ensures ∙ c.in-Ok.is) (λ _ powerset.
    IfOk-weaker c.plan_by.result (λ answer. IsPlan cx c.args.rustup.now c.in-Ok.latest answer.0 (map note_of answer.1.items)) (λ answer. HaveSamples cx c.in-Ok.latest answer.0)
    (λ answer h. samples cx c.in-Ok.latest answer.0 h.performed.base powerset)
    (c.plan_by.ensures.ok c.args.rustup.now c.in_ok-words.ensures))

pub returns-in-Ok-clause-patterns : goal.returns-in-Ok-clause-patterns
returns-in-Ok-clause-patterns c =
    let cx = context_view c.args.cx.now in
    of-latest c.args.stable c.in-Ok.latest _ (sym c.latest.ensures ∙ c.in-Ok.is) (λ _ powerset each.
    IfOk-weaker c.plan_by.result (λ answer. IsPlan cx c.args.rustup.now c.in-Ok.latest answer.0 (map note_of answer.1.items)) (λ answer. ArePatternsHeld cx c.in-Ok.latest answer.0)
    (λ answer h. patterns cx c.in-Ok.latest answer.0 h.performed.base powerset each)
    (c.plan_by.ensures.ok c.args.rustup.now c.in_ok-words.ensures))

pub returns-in-Ok-clause-never : goal.returns-in-Ok-clause-never
returns-in-Ok-clause-never c =
    let cx = context_view c.args.cx.now in
    IfOk-weaker c.plan_by.result (λ _. (e : PlanFault) → ¬ IsSureCause cx c.in-Ok.latest e) (λ _. (e : PlanFault) → ¬ IsSureCauseOf cx.args.subcommand c.args.stable cx e)
    (λ answer never e bad. never e (cause-by cx.args.subcommand c.args.stable c.in-Ok.latest cx e (sym c.latest.ensures ∙ c.in-Ok.is) bad)) c.plan_by.ensures.never
