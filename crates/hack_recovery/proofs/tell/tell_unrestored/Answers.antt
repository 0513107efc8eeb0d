use Rattle.std.proofs.Common.{refl}
use Rattle.hack_recovery.proofs.SaidLemmas.{wrote_as}
use Rattle.hack_recovery.specs.Texts.{nothing_left_text, unrestored_text}
use Rattle.hack_term.specs.Lines.{error_line, info_line}
use Rattle.hack_recovery.proofs.tell.tell_unrestored.Goals as goal

pub returns-then-by_guard : goal.returns-then-by_guard
returns-then-by_guard g c = rw c.if-by_guard.true (refl, refl)

pub returns-then-is_left : goal.returns-then-is_left
returns-then-is_left g c =
    rw (c.if-by_guard.false, c.if-is_left.true) (c.error.ensures.noted, wrote_as g.E.Sink _ _ (error_line c.args.term.now.coloring) _ unrestored_text c.error.result refl c.error.ensures.line c.error.ensures.front c.error.ensures.counted)

pub returns : goal.returns
returns g c =
    rw (c.if-by_guard.false, c.if-is_left.false) (refl, wrote_as g.E.Sink _ _ (info_line c.args.term.now.coloring) _ nothing_left_text c.info.result refl c.info.ensures.line c.info.ensures.front c.info.ensures.counted)
