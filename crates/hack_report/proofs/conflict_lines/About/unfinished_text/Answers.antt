use Rattle.std.proofs.Common.{◌∙◌, ◌++◌, List, ap, codes, ℕ}
use Rattle.std.proofs.lemmas.Result.{IfOk-weaker}
use Rattle.hack_report.proofs.conflict_lines.About.unfinished_text.Goals as goal

pub returns : goal.returns
returns c =
    let front : List ℕ → List ℕ = λ set. c.args.self.spot.now ++ (codes " these features fail together, and not all parts of them were tried:\n    " ++ set) in
    IfOk-weaker c.format.result _ _ (λ text e. e ∙ ap front c.in_ok-set.ensures) c.format.ensures.ok
