use Rattle.std.proofs.Common.{◌++◌, None}
use Rattle.std.proofs.lemmas.Result.{err_from_is_err_and}
use Rattle.std.proofs.lemmas.Bool.Decides.{Decides-eqb}
use Rattle.std.proofs.lemmas.Slice.Eq.{strip_prefix_is}
use Rattle.std.specs.Prelude.{codes}
use Rattle.hack_journal.specs.Journal.{lines}
use Rattle.hack_journal.proofs.TextLemmas.{none_first}
use Rattle.hack_journal.proofs.journal.content_of.Goals as goal

pub returns-in_err-rest-clause-only : goal.returns-in_err-rest-clause-only
returns-in_err-rest-clause-only c = λ bytes rest next h.
    let b = none_first bytes rest c.args.text.now h (strip_prefix_is Decides-eqb c.args.text.now (codes " nothing\n") None c.in_default.ensures.cases) in
    let p = err_from_is_err_and c.from_residual.result c.from_residual.ensures.1 in
    rw (p.1, p.2) (c.in_err-rest.ensures.only (lines b.0 ++ rest) b.2)
