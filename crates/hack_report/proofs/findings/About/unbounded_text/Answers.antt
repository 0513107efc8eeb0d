use Rattle.std.proofs.Common.{◌∙◌, ◌++◌, List, ap, codes, ℕ}
use Rattle.std.proofs.lemmas.Result.{IfOk-weaker}
use Rattle.hack_report.proofs.findings.About.unbounded_text.Goals as goal

pub returns : goal.returns
returns c =
    let front : List ℕ → List ℕ = λ least. c.args.self.name.now ++ (codes ": all runs pass on each version that was tried, down to " ++ least) in
    IfOk-weaker c.format.result _ _ (λ text e. e ∙ ap front c.in_ok-least.ensures) c.format.ensures.ok
