use Rattle.std.proofs.Common.{◌∙◌, ap, map, subst, sym}
use Rattle.hack_words.specs.declared.cli.args.Args.{Args}
use Rattle.hack_planner.specs.CallPlan.{IsPlanOf}
use Rattle.hack_plan.specs.View.{PlanView}
use Rattle.hack_load.specs.ContextView.{context_view}
use Rattle.hack_base.specs.Notes.{note_of}
use Rattle.hack_drive.proofs.HeadlineLemmas.{handed_out}
use Rattle.hack_drive.proofs.drive.drive_context.Goals as goal

pub returns-clause-headline : goal.returns-clause-headline
returns-clause-headline g c =
    handed_out (context_view c.args.cx.now) c.args.stable c.args.rustup.now c.in_ok-session.session c.in_ok-plan.plan (map note_of c.in_ok-plan.notices.items) c.args-3.result.now c.args-3.ensures
    c.in_ok-plan.ensures.ok c.in_ok-plan.ensures.powersets c.in_ok-plan.ensures.samples c.in_ok-plan.ensures.patterns c.in_ok-session.ensures.plan (c.in_ok-session.ensures.keep_going ∙ ap (λ (a : Args). a.keep_going) c.args-2.ensures) c.in_ok-session.ensures.schedule c.in_ok-session.ensures.complete c.in_ok-session.ensures.history c.in_ok-session.ensures.hands_out

pub returns-clause-ran : goal.returns-clause-ran
returns-clause-ran g c =
    let cx = context_view c.args.cx.now in
    let notes = map note_of c.in_ok-plan.notices.items in
    let same = sym c.in_ok-session.ensures.plan in (
      notes,
      c.tell.new.self,
      subst (λ (p : PlanView). IsPlanOf cx.args.subcommand c.args.stable cx c.args.rustup.now p notes) same c.in_ok-plan.ensures.ok,
      rw c.as_slice.ensures.value at c.tell.ensures,
      subst (λ (p : PlanView). g.R.Runner.ran p c.in_ok-session.session.handed c.tell.new.self c.drive_plan.new.runner) same c.in_ok-session.ensures.ran,
    )
