use Rattle.std.proofs.Common.{◌∙◌, ◌++◌, List, ap, codes, ℕ}
use Rattle.std.proofs.lemmas.Result.{IfOk-weaker}
use Rattle.hack_report.proofs.findings.promise_text.Goals as goal

pub returns : goal.returns
returns c =
    let front : List ℕ → List ℕ = λ failed. c.args.name.now ++ (codes ": its rust-version is " ++ (c.args.own.now ++ (codes ", but not all runs pass on " ++ failed))) in
    IfOk-weaker c.format.result _ _ (λ text e. e ∙ ap front c.in_ok-failed.ensures) c.format.ensures.ok
