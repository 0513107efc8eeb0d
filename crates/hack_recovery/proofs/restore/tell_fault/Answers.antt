use Rattle.std.proofs.Common.{◌∙◌, refl}
use Rattle.std.proofs.lemmas.Result.{err_from_is_err_and}
use Rattle.hack_term.specs.Lines.{error_line}
use Rattle.hack_recovery.proofs.SaidLemmas.{wrote_as}
use Rattle.hack_recovery.proofs.restore.tell_fault.Goals as goal

pub returns-in_err-text-clause-said : goal.returns-in_err-text-clause-said
returns-in_err-text-clause-said g c =
    let p = err_from_is_err_and c.from_residual.result c.from_residual.ensures.1 in
    rw p.1 refl

pub returns-clause-said : goal.returns-clause-said
returns-clause-said g c =
    wrote_as g.E.Sink _ _ (error_line c.args.term.now.coloring) _ _ c.error.result (c.deref.ensures ∙ c.in_ok-text.ensures.ok) c.error.ensures.line c.error.ensures.front c.error.ensures.counted
