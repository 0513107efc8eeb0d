use Rattle.std.proofs.Common.{refl}
use Rattle.hack_term.specs.Lines.{error_line}
use Rattle.hack_recovery.proofs.SaidLemmas.{wrote_as}
use Rattle.hack_recovery.proofs.perform.report.Goals as goal

pub returns-clause-refuses : goal.returns-clause-refuses
returns-clause-refuses g c = λ files lockfiles unkept locks guards.
    ((c.error.ensures.noted, wrote_as g.E.Sink _ _ (error_line c.args.host.now.term.now.coloring) _ _ c.error.result c.text.ensures c.error.ensures.line c.error.ensures.front c.error.ensures.counted), refl)
