use Rattle.std.proofs.Common.{Err, ap, map, string_bytes, sym, ◌∙◌}
use Rattle.std.proofs.lemmas.Result.{err_from_is_err_and}
use Rattle.hack_session.specs.StepEffects.{scene_of}
use Rattle.hack_session.specs.StepOutput.{manner_on}
use Rattle.hack_session.proofs.EffectLemmas.{ensured_as, no_number, refused_version}
use Rattle.hack_session.proofs.perform.install.Goals as goal

pub returns-in_err-name-in-Some-clause-does : goal.returns-in_err-name-in-Some-clause-does
returns-in_err-name-in-Some-clause-does g c =
    let p = err_from_is_err_and c.from_residual.result c.from_residual.ensures.1 in
    refused_version g.C.Caller.tells c.from_residual.result (manner_on c.args.screen.now) c.args.plan.now c.args.number c.in-Some.number (scene_of g.C.Caller g.O.Sink g.E.Sink c.args.caller.now c.args.screen.now) (sym c.in-Some.is) (p.1 ∙ ap Err p.2)

pub returns-in_ok-name-in-Some-clause-does : goal.returns-in_ok-name-in-Some-clause-does
returns-in_ok-name-in-Some-clause-does g c =
    ensured_as g.C.Caller.tells c.install_toolchain.result (manner_on c.args.screen.now) c.args.plan.now c.args.number c.in-Some.number c.dir.result.now c.rustup.result.now c.as_str.result.now (map string_bytes c.targets.result.now) (scene_of g.C.Caller g.O.Sink g.E.Sink c.args.caller.now c.args.screen.now) (scene_of g.C.Caller g.O.Sink g.E.Sink c.install_toolchain.new.caller c.install_toolchain.new.screen)
    (sym c.in-Some.is) c.dir.ensures c.rustup.ensures (c.as_str.ensures.value ∙ c.in_ok-name-in-Some.ensures) c.targets.ensures c.install_toolchain.ensures.does

pub returns-in-None-clause-does : goal.returns-in-None-clause-does
returns-in-None-clause-does g c = no_number g.C.Caller.tells (manner_on c.args.screen.now) c.args.plan.now c.args.number (scene_of g.C.Caller g.O.Sink g.E.Sink c.args.caller.now c.args.screen.now) (sym c.in-None.is)
