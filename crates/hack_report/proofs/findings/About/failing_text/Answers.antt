use Rattle.std.proofs.Common.{◌∙◌, ◌++◌, List, ap, codes, ℕ}
use Rattle.std.proofs.lemmas.Result.{IfOk-weaker}
use Rattle.hack_report.proofs.findings.About.failing_text.Goals as goal

pub returns : goal.returns
returns c = IfOk-weaker c.format.result _ _ (λ text e. e ∙ ap (λ (failure : List ℕ). c.args.self.name.now ++ (codes ": " ++ failure)) c.in_ok-failure.ensures) c.format.ensures.ok
