use Rattle.std.proofs.Common.{refl, ◌∙◌}
use Rattle.hack_base.proofs.StreamLemmas.{wrote}
use Rattle.hack_process.specs.Commands.{command_of}
use Rattle.hack_term.specs.Lines.{info_line}
use Rattle.hack_session.specs.StepOutput.{manner_on, streams, streams_of}
use Rattle.hack_session.proofs.EffectLemmas.{cleaning_told}
use Rattle.hack_session.proofs.screen.Screen.tell_cleaning.Goals as goal

pub returns-in_ok-text-clause-ok : goal.returns-in_ok-text-clause-ok
returns-in_ok-text-clause-ok g c =
    cleaning_told (manner_on c.args.self.now) c.args.dir.now (command_of c.args.command.now) c.deref.result.now (streams_of g.O.Sink g.E.Sink c.args.self.now)
    (streams g.O.Sink g.E.Sink c.args.self.now.out.now c.info.new.out) c.if-self.true (c.deref.ensures ∙ c.in_ok-text.ensures)
    (wrote g.E.Sink _ _ (info_line c.args.self.now.term.now.coloring c.deref.result.now) c.info.result c.info.ensures.line c.info.ensures.front c.info.ensures.counted, refl)
