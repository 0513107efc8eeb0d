use Rattle.std.proofs.Common.{refl}
use Rattle.hack_recovery.proofs.SaidLemmas.{wrote_as}
use Rattle.hack_recovery.specs.Texts.{unkept_text}
use Rattle.hack_term.specs.Lines.{info_line}
use Rattle.hack_recovery.proofs.closing.tell_unkept.Goals as goal

pub returns-then-not-missed : goal.returns-then-not-missed
returns-then-not-missed g c = rw c.if-not-missed.true refl

pub returns : goal.returns
returns g c =
    rw c.if-not-missed.false (wrote_as g.E.Sink _ _ (info_line c.args.term.now.coloring) _ (unkept_text c.args.journal.now) c.info_of.result refl c.info_of.ensures.line c.info_of.ensures.front c.info_of.ensures.counted)
