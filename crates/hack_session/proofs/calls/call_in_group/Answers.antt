use Rattle.std.proofs.Common.{◌≡◌, ap, sym, subst}
use Rattle.std.specs.Prelude.{◌↔◌, IsSome}
use Rattle.hack_process.specs.Commands.{command_of}
use Rattle.hack_term.specs.declared.log_group.LogGroup.{LogGroup}
use Rattle.hack_term.specs.declared.log_group.LogGroup.TheVariants.{GithubActions}
use Rattle.hack_session.specs.StepOutput.{Manner, manner_on, streams_of}
use Rattle.hack_session.proofs.EffectLemmas.{in_group}
use Rattle.hack_session.proofs.calls.call_in_group.Goals as goal

pub close-requires : goal.close-requires
close-requires g c = subst (λ (group : LogGroup). IsSome c.open-guard.result ↔ (group ≡ GithubActions)) (sym (ap (λ (m : Manner). m.group) c.open-guard.ensures.screen.manner)) c.open-guard.ensures.guard

pub returns-clause-does : goal.returns-clause-does
returns-clause-does g c =
    in_group g.C.Caller.tells c.call-came.result (manner_on c.args.screen.now) c.args.text.now c.args.dir.now (command_of c.args.command.now) (g.C.Caller.calls c.args.caller.now) (g.C.Caller.calls c.call-came.new.caller)
    (streams_of g.O.Sink g.E.Sink c.args.screen.now) (streams_of g.O.Sink g.E.Sink c.open-guard.new.self) (streams_of g.O.Sink g.E.Sink c.close.new.self) c.open-guard.new.self.log_group
    (ap (λ (m : Manner). m.group) c.open-guard.ensures.screen.manner) c.open-guard.ensures.says c.call-came.ensures.comes c.close.ensures.says
