use Rattle.std.proofs.Common.{◌∙◌, ◌++◌, List, ap, codes, ℕ}
use Rattle.std.proofs.lemmas.Result.{IfOk-weaker}
use Rattle.hack_report.proofs.conflict_lines.About.conflict_text.Goals as goal

pub returns : goal.returns
returns c =
    let front : List ℕ → List ℕ = λ sets. c.args.self.spot.now ++ (codes " these features fail together, and no part of them that may be chosen fails:" ++ sets) in
    IfOk-weaker c.format.result _ _ (λ text e. e ∙ ap front c.in_ok-sets.ensures) c.format.ensures.ok
