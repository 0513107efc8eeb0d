use Rattle.std.proofs.Common.{◌∙◌, ◌++◌, List, ap, codes, string_bytes, ℕ}
use Rattle.std.proofs.lemmas.Result.{IfOk-weaker}
use Rattle.hack_load.specs.ContextView.{context_view}
use Rattle.hack_plan.specs.Commands.{toolchain_of}
use Rattle.hack_report.specs.Findings.{asked_range}
use Rattle.hack_report.proofs.findings.About.bounded_text.Goals as goal

pub returns : goal.returns
returns c =
    let name = c.args.self.name.now in
    let least = toolchain_of c.args.least in
    let range = asked_range (context_view c.args.self.cx.now) in
    let line : List ℕ → List ℕ → List ℕ → List ℕ = λ l r f. name ++ (codes ": " ++ (l ++ (codes " is the least version of " ++ (r ++ (codes " on which all runs pass; " ++ f))))) in
    IfOk-weaker c.format.result _ _ (λ text e. e ∙ ap (λ (l : List ℕ). line l (string_bytes c.in_ok-range.range) (string_bytes c.in_ok-failure.failure)) c.in_ok-least.ensures
    ∙ ap (λ (r : List ℕ). line least r (string_bytes c.in_ok-failure.failure)) c.in_ok-range.ensures ∙ ap (line least range) c.in_ok-failure.ensures) c.format.ensures.ok
