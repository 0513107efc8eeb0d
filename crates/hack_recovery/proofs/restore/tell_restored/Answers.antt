use Rattle.std.proofs.Common.{◌++◌, ap, codes}
use Rattle.hack_base.specs.Names.{Name}
use Rattle.hack_term.specs.Lines.{info_line}
use Rattle.hack_recovery.proofs.SaidLemmas.{wrote_as}
use Rattle.hack_recovery.proofs.restore.tell_restored.Goals as goal

pub returns : goal.returns
returns g c =
    wrote_as g.E.Sink _ _ (info_line c.args.term.now.coloring) _ _ c.info_of.result (ap (λ (p : Name). codes "restored `" ++ (p ++ codes "` after an interrupted call")) c.under.ensures) c.info_of.ensures.line c.info_of.ensures.front c.info_of.ensures.counted
