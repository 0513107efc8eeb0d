use Rattle.std.proofs.Common.{◌≡◌, ◌∙◌, ap, subst, string_bytes}
use Rattle.std.specs.Prelude.{IfOk}
use Rattle.hack_process.specs.CommandTexts.{text_of}
use Rattle.hack_process.specs.Commands.{command_of}
use Rattle.hack_versions.specs.ToolTexts.{answer_fault_text}
use Rattle.hack_load.specs.CargoQuestions.{unknown_version}
use Rattle.hack_load.proofs.cargo_version.warning_of.Goals as goal

pub returns : goal.returns
returns c =
    let e : c.of.result.command.now ≡ text_of c.args.args.now.verbose (string_bytes c.args.env.now.current_dir) (command_of c.args.asked.now) =
    ap (λ b. b.now) c.of.ensures.command ∙ c.as_str-2.ensures.value ∙ c.in_ok-command.ensures ∙ ap (λ dir. text_of c.args.args.now.verbose dir (command_of c.args.asked.now)) c.as_str.ensures.value
    in
    subst (λ x. IfOk c.unknown_version_text.result (λ text. string_bytes text ≡ unknown_version (answer_fault_text x c.args.fault.now))) e
    (subst (λ f. IfOk c.unknown_version_text.result (λ text. string_bytes text ≡ unknown_version (answer_fault_text c.of.result.command.now f.now))) c.of.ensures.fault c.unknown_version_text.ensures)
