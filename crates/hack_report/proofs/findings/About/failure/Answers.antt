use Rattle.std.proofs.Common.{◌∙◌, List, ap, sym, ℕ}
use Rattle.std.proofs.lemmas.Result.{IfOk-weaker}
use Rattle.hack_load.specs.ContextView.{context_view}
use Rattle.hack_process.specs.CommandTexts.{Command, text_of}
use Rattle.hack_process.specs.Commands.{command_of}
use Rattle.hack_words.specs.declared.cli.args.Args.{Args}
use Rattle.hack_report.specs.Findings.{failing_on, failure_of}
use Rattle.hack_report.proofs.findings.About.failure.Goals as goal

pub returns : goal.returns
returns c =
    let cx = context_view c.args.self.cx.now in
    let ran = c.in_ok-run.run' in
    let text = c.as_str.ensures.value ∙ c.in_ok-command.ensures ∙ ap (λ (args : Args). text_of args.verbose c.current_dir-dir.result.now (command_of ran.command)) c.args-2.ensures
    ∙ ap (λ (dir : List ℕ). text_of cx.args.verbose dir (command_of ran.command)) c.current_dir-dir.ensures ∙ ap (λ (command : Command). text_of cx.args.verbose cx.current_dir command) c.in_ok-run.ensures.command in
    IfOk-weaker c.failing_on.result _ _ (λ line e. e ∙ ap (failing_on ran.entry.version) text ∙ sym (ap (failure_of cx c.args.self.plan.now) c.in_ok-run.ensures.entry)) c.failing_on.ensures
