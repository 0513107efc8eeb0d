use Rattle.std.proofs.Common.{refl}
use Rattle.hack_recovery.proofs.SaidLemmas.{wrote_as}
use Rattle.hack_recovery.specs.Texts.{stay_text}
use Rattle.hack_term.specs.Lines.{warning_line}
use Rattle.hack_recovery.proofs.closing.tell_stay.Goals as goal

pub returns : goal.returns
returns g c = (
  c.warn_of.ensures.noted,
  wrote_as g.E.Sink _ _ (warning_line c.args.term.now.coloring) _ (stay_text c.args.path.now c.args.how.now) c.warn_of.result refl c.warn_of.ensures.line c.warn_of.ensures.front c.warn_of.ensures.counted,
)
