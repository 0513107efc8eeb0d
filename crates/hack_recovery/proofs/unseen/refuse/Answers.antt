use Rattle.std.proofs.Common.{refl}
use Rattle.hack_term.specs.Lines.{error_line}
use Rattle.hack_recovery.proofs.SaidLemmas.{wrote_as}
use Rattle.hack_recovery.specs.Texts.{unseen_text}
use Rattle.hack_recovery.proofs.unseen.refuse.Goals as goal

pub returns-clause-said : goal.returns-clause-said
returns-clause-said g c =
    wrote_as g.E.Sink _ _ (error_line c.args.term.now.coloring) _ (unseen_text c.args.path.now) c.error_of.result refl c.error_of.ensures.line c.error_of.ensures.front c.error_of.ensures.counted
