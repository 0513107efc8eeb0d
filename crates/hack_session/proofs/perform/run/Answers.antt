use Rattle.std.proofs.Common.{◌∷◌, [], ap, ◌∙◌, sym, slice_get, Err, Ok, inl, inr, refl}
use Rattle.std.proofs.lemmas.Result.{err_from_is_err_and}
use Rattle.hack_process.specs.Commands.{command_of}
use Rattle.hack_plan.specs.Commands.{chosen_package_at, clean_command}
use Rattle.hack_session.specs.StepEffects.{cleaning_task, own_task, scene_of}
use Rattle.hack_session.specs.StepOutput.{manner_on, streams_of}
use Rattle.hack_session.proofs.EffectLemmas.{cleaned_as, cleaned_tasks, cleaning_at, one_task, own_as, plain_tasks, run_at, run_refused}
use Rattle.hack_session.proofs.perform.run.Goals as goal

pub returns-in_err-run-clause-does : goal.returns-in_err-run-clause-does
returns-in_err-run-clause-does g c =
    let p = err_from_is_err_and c.from_residual.result c.from_residual.ensures.1 in
    run_refused g.C.Caller.tells c.from_residual.result (manner_on c.args.screen.now) c.args.plan.now c.args.place (g.C.Caller.calls c.args.caller.now) (streams_of g.O.Sink g.E.Sink c.args.screen.now) (streams_of g.O.Sink g.E.Sink c.space.new.self) c.requires (p.1 ∙ ap Err p.2) c.space.ensures.says

pub returns-in_err-cleaning-clause-does : goal.returns-in_err-cleaning-clause-does
returns-in_err-cleaning-clause-does g c =
    let p = err_from_is_err_and c.from_residual-in_err-cleaning.result c.from_residual-in_err-cleaning.ensures.1 in
    run_refused g.C.Caller.tells c.from_residual-in_err-cleaning.result (manner_on c.args.screen.now) c.args.plan.now c.args.place (g.C.Caller.calls c.args.caller.now) (streams_of g.O.Sink g.E.Sink c.args.screen.now) (streams_of g.O.Sink g.E.Sink c.space.new.self) c.requires (p.1 ∙ ap Err p.2) c.space.ensures.says

pub returns-then-not-cleans_per_run-clause-does : goal.returns-then-not-cleans_per_run-clause-does
returns-then-not-cleans_per_run-clause-does g c =
    let m = manner_on c.args.screen.now in
    let q = c.in_ok-run.run'.entry in
    run_at g.C.Caller.tells c.run_own.result m c.args.plan.now c.args.place q ((own_task m c.args.plan.now c.args.place q) ∷ []) (g.C.Caller.calls c.args.caller.now) (streams_of g.O.Sink g.E.Sink c.args.screen.now) (streams_of g.O.Sink g.E.Sink c.space.new.self) (scene_of g.C.Caller g.O.Sink g.E.Sink c.run_own.new.caller c.run_own.new.screen) c.in_ok-run.ensures.entry
    (plain_tasks m c.args.plan.now c.args.place q (sym c.if-not-cleans_per_run.ensures)) c.space.ensures.says
    (one_task g.C.Caller.tells c.run_own.result (own_task m c.args.plan.now c.args.place q) (scene_of g.C.Caller g.O.Sink g.E.Sink c.args.caller.now c.space.new.self) (scene_of g.C.Caller g.O.Sink g.E.Sink c.run_own.new.caller c.run_own.new.screen)
    (own_as g.C.Caller.tells c.run_own.result (manner_on c.space.new.self) m c.args.plan.now c.args.place q (scene_of g.C.Caller g.O.Sink g.E.Sink c.args.caller.now c.space.new.self) (scene_of g.C.Caller g.O.Sink g.E.Sink c.run_own.new.caller c.run_own.new.screen) c.space.ensures.screen.manner c.run_own.ensures.does))

pub returns-in-Ok-clause-does : goal.returns-in-Ok-clause-does
returns-in-Ok-clause-does g c =
    let m = manner_on c.args.screen.now in
    let q = c.in_ok-run.run'.entry in
    run_at g.C.Caller.tells c.run_own-in-Ok.result m c.args.plan.now c.args.place q ((cleaning_task m c.args.plan.now.call.dir (clean_command c.args.plan.now.call (chosen_package_at c.args.plan.now.packages q.package))) ∷ (own_task m c.args.plan.now c.args.place q) ∷ []) (g.C.Caller.calls c.args.caller.now) (streams_of g.O.Sink g.E.Sink c.args.screen.now) (streams_of g.O.Sink g.E.Sink c.space.new.self) (scene_of g.C.Caller g.O.Sink g.E.Sink c.run_own-in-Ok.new.caller c.run_own-in-Ok.new.screen) c.in_ok-run.ensures.entry
    (cleaned_tasks m c.args.plan.now c.args.place q (sym c.if-not-cleans_per_run.ensures)) c.space.ensures.says
    (inr (
      (scene_of g.C.Caller g.O.Sink g.E.Sink c.clean.new.caller c.clean.new.screen),
      cleaned_as g.C.Caller.tells (Ok tt) (manner_on c.space.new.self) m c.dir.result.now c.args.plan.now.call.dir (command_of c.in_ok-cleaning.cleaning) (clean_command c.args.plan.now.call (chosen_package_at c.args.plan.now.packages q.package)) (scene_of g.C.Caller g.O.Sink g.E.Sink c.args.caller.now c.space.new.self) (scene_of g.C.Caller g.O.Sink g.E.Sink c.clean.new.caller c.clean.new.screen) c.space.ensures.screen.manner c.dir.ensures
          (cleaning_at c.args.plan.now (slice_get c.args.plan.now.entries c.args.place) q (command_of c.in_ok-cleaning.cleaning) c.in_ok-run.ensures.entry c.in_ok-cleaning.ensures) c.in-Ok.ensures.does,
      one_task g.C.Caller.tells c.run_own-in-Ok.result (own_task m c.args.plan.now c.args.place q) (scene_of g.C.Caller g.O.Sink g.E.Sink c.clean.new.caller c.clean.new.screen) (scene_of g.C.Caller g.O.Sink g.E.Sink c.run_own-in-Ok.new.caller c.run_own-in-Ok.new.screen)
          (own_as g.C.Caller.tells c.run_own-in-Ok.result (manner_on c.clean.new.screen) m c.args.plan.now c.args.place q (scene_of g.C.Caller g.O.Sink g.E.Sink c.clean.new.caller c.clean.new.screen) (scene_of g.C.Caller g.O.Sink g.E.Sink c.run_own-in-Ok.new.caller c.run_own-in-Ok.new.screen) (c.in-Ok.ensures.screen.manner ∙ c.space.ensures.screen.manner) c.run_own-in-Ok.ensures.does),
    ))

pub returns-clause-does : goal.returns-clause-does
returns-clause-does g c =
    let m = manner_on c.args.screen.now in
    let q = c.in_ok-run.run'.entry in
    run_at g.C.Caller.tells (Err c.in-Err.fault) m c.args.plan.now c.args.place q ((cleaning_task m c.args.plan.now.call.dir (clean_command c.args.plan.now.call (chosen_package_at c.args.plan.now.packages q.package))) ∷ (own_task m c.args.plan.now c.args.place q) ∷ []) (g.C.Caller.calls c.args.caller.now) (streams_of g.O.Sink g.E.Sink c.args.screen.now) (streams_of g.O.Sink g.E.Sink c.space.new.self) (scene_of g.C.Caller g.O.Sink g.E.Sink c.clean.new.caller c.clean.new.screen) c.in_ok-run.ensures.entry
    (cleaned_tasks m c.args.plan.now c.args.place q (sym c.if-not-cleans_per_run.ensures)) c.space.ensures.says
    (inl (
      refl,
      cleaned_as g.C.Caller.tells (Err c.in-Err.fault) (manner_on c.space.new.self) m c.dir.result.now c.args.plan.now.call.dir (command_of c.in_ok-cleaning.cleaning) (clean_command c.args.plan.now.call (chosen_package_at c.args.plan.now.packages q.package)) (scene_of g.C.Caller g.O.Sink g.E.Sink c.args.caller.now c.space.new.self) (scene_of g.C.Caller g.O.Sink g.E.Sink c.clean.new.caller c.clean.new.screen) c.space.ensures.screen.manner c.dir.ensures
          (cleaning_at c.args.plan.now (slice_get c.args.plan.now.entries c.args.place) q (command_of c.in_ok-cleaning.cleaning) c.in_ok-run.ensures.entry c.in_ok-cleaning.ensures) c.in-Err.ensures.does,
    ))
