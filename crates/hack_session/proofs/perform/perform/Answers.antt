use Rattle.std.proofs.Common.{ap, ◌∙◌}
use Rattle.hack_plan.specs.declared.parts.Preparation.TheVariants.{Lockfile}
use Rattle.hack_session.specs.declared.step.Step.TheVariants.{Prepare}
use Rattle.hack_session.specs.StepEffects.{scene_of}
use Rattle.hack_session.specs.StepOutput.{manner_on, streams_of}
use Rattle.hack_session.proofs.EffectLemmas.{performed_as}
use Rattle.hack_session.proofs.perform.perform.Goals as goal

pub returns-in-Prepare-Lockfile-clause-does : goal.returns-in-Prepare-Lockfile-clause-does
returns-in-Prepare-Lockfile-clause-does g c =
    performed_as g.C.Caller.tells c.generate_lockfile.result (manner_on c.args.screen.now) c.args.plan.now c.args.step (Prepare (Lockfile c.in-Prepare-Lockfile.version)) (scene_of g.C.Caller g.O.Sink g.E.Sink c.args.caller.now c.args.screen.now) (scene_of g.C.Caller g.O.Sink g.E.Sink c.generate_lockfile.new.caller c.args.screen.now)
    (let h = rw c.in-Prepare-Lockfile.is at c.in-Prepare-Lockfile.field-0-is in c.in-Prepare-Lockfile.is ∙ ap Prepare h)
    (rw c.number-in-Prepare-Lockfile.ensures at (c.generate_lockfile.ensures.does (streams_of g.O.Sink g.E.Sink c.args.screen.now)))
