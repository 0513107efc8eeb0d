use Rattle.std.proofs.Common.{Err, ap, sym, ◌∙◌}
use Rattle.std.proofs.lemmas.Result.{err_from_is_err_and}
use Rattle.hack_process.specs.Commands.{command_of}
use Rattle.hack_session.proofs.EffectLemmas.{lockfile_made, no_lockfile, refused_lockfile}
use Rattle.hack_session.proofs.perform.generate_lockfile.Goals as goal

pub returns-in_err-command-in-Some-clause-does : goal.returns-in_err-command-in-Some-clause-does
returns-in_err-command-in-Some-clause-does g c =
    let p = err_from_is_err_and c.from_residual.result c.from_residual.ensures.1 in
    λ streams. refused_lockfile g.C.Caller.tells c.from_residual.result c.args.plan.now c.args.number c.in-Some.number (record { calls = g.C.Caller.calls c.args.caller.now; streams = streams }) (sym c.in-Some.is) (p.1 ∙ ap Err p.2)

pub returns-in_ok-command-in-Some-clause-does : goal.returns-in_ok-command-in-Some-clause-does
returns-in_ok-command-in-Some-clause-does g c = λ streams.
    lockfile_made g.C.Caller.tells c.call.result c.args.plan.now c.args.number c.in-Some.number c.dir.result.now (command_of c.in_ok-command-in-Some.command) (g.C.Caller.calls c.args.caller.now) (g.C.Caller.calls c.call.new.caller) streams (sym c.in-Some.is) c.in_ok-command-in-Some.ensures c.dir.ensures c.call.ensures.comes

pub returns-in-None-clause-does : goal.returns-in-None-clause-does
returns-in-None-clause-does g c = λ streams. no_lockfile g.C.Caller.tells c.args.plan.now c.args.number (record { calls = g.C.Caller.calls c.args.caller.now; streams = streams }) (sym c.in-None.is)
