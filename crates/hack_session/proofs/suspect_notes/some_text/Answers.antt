use Rattle.std.proofs.Common.{◌++◌, ◌∙◌, ap, codes, List, ℕ}
use Rattle.std.specs.Fmt.{decimal}
use Rattle.std.proofs.lemmas.Result.{IfOk-weaker}
use Rattle.hack_session.proofs.suspect_notes.some_text.Goals as goal

pub returns : goal.returns
returns c = IfOk-weaker c.format.result _ _ (λ text e. e ∙ ap (λ (s : List ℕ). decimal c.args.showing ++ (codes " of " ++ (decimal c.args.failed ++ (codes " failed runs " ++ s)))) c.have_text-have.ensures) c.format.ensures.ok
