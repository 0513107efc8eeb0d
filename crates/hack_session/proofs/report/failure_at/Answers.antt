use Rattle.std.proofs.Common.{ℕ, List, ap, ◌∙◌, string_bytes, slice_get, refl, unwrap_or, [], true, Option}
use Rattle.hack_process.specs.CommandTexts.{text_of}
use Rattle.hack_process.specs.Commands.{command_of}
use Rattle.hack_session.proofs.ReportLemmas.{name_or, told_at}
use Rattle.hack_session.proofs.report.failure_at.Goals as goal

pub returns : goal.returns
returns c =
    told_at c.args.plan.now (slice_get c.args.plan.now.entries c.args.place) c.in_ok-run.run'.entry (string_bytes c.in_ok-name.name) (string_bytes c.in_ok-text.text) c.in_ok-run.ensures.entry
    (c.in_ok-name.ensures.ok ∙ ap (λ n. n.now) c.unwrap_or.ensures ∙ name_or c.in_ok-run.run'.name _ refl ∙ ap (λ (o : Option (List ℕ)). unwrap_or o []) c.in_ok-run.ensures.name)
    (c.in_ok-text.ensures ∙ ap (λ (d : List ℕ). text_of true d (command_of c.in_ok-run.run'.command)) c.dir.ensures ∙ ap (text_of true c.args.plan.now.call.dir) c.in_ok-run.ensures.command)
