use Rattle.std.proofs.Common.{refl}
use Rattle.hack_term.specs.Lines.{warning_line}
use Rattle.hack_recovery.proofs.SaidLemmas.{wrote_as}
use Rattle.hack_recovery.specs.Texts.{unsure_text}
use Rattle.hack_recovery.proofs.unseen.warn.Goals as goal

pub returns-clause-said : goal.returns-clause-said
returns-clause-said g c =
    wrote_as g.E.Sink _ _ (warning_line c.args.term.now.coloring) _ (unsure_text c.args.path.now) c.warn_of.result refl c.warn_of.ensures.line c.warn_of.ensures.front c.warn_of.ensures.counted
