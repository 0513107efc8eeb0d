use Rattle.std.proofs.Common.{◌++◌, ◌∙◌, ap, codes, List, ℕ}
use Rattle.std.specs.Fmt.{decimal}
use Rattle.std.proofs.lemmas.Result.{IfOk-weaker}
use Rattle.hack_session.specs.SuspectNotes.{ending}
use Rattle.hack_session.proofs.suspect_notes.missed_text.Goals as goal

pub returns : goal.returns
returns c =
    let front : List ℕ → List ℕ = λ s. decimal c.args.missed ++ (codes " failed run" ++ s) in
    IfOk-weaker c.format.result _ _ (λ text e. e ∙ ap (λ (s : List ℕ). front (s ++ (codes " " ++ c.have_text-have.result.now))) c.ending-runs.ensures ∙ ap (λ (s : List ℕ). front (ending c.args.missed ++ (codes " " ++ s))) c.have_text-have.ensures) c.format.ensures.ok
