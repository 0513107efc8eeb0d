use Rattle.hack_session.proofs.EffectLemmas.{opens}
use Rattle.hack_session.proofs.screen.Screen.open.Goals as goal

pub returns-clause-says : goal.returns-clause-says
returns-clause-says g c = opens _ _ _ _ g.O.Sink g.E.Sink c.args.self.now.log_group c.args.self.now.term.now.coloring c.args.text.now _ _ _ _ c.print-guard.result.1
    c.print-guard.ensures.line c.print-guard.ensures.out c.print-guard.ensures.err c.print-guard.ensures.counted c.print-guard.ensures.out_kept c.print-guard.ensures.err_kept
