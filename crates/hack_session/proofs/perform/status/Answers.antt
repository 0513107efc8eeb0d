use Rattle.std.proofs.Common.{◌≡◌, ◌+◌, ℕ, List, Option, IfOk, string_bytes, option_map, ap, ◌∙◌, subst}
use Rattle.hack_process.specs.CommandTexts.{text_of}
use Rattle.hack_process.specs.Commands.{command_of}
use Rattle.hack_plan.specs.Commands.{command_of_entry, name_in, chosen_package_at}
use Rattle.hack_session.specs.Statuses.{status_text, told_name}
use Rattle.hack_session.proofs.perform.status.Goals as goal

pub returns : goal.returns
returns c =
    let text : c.as_str.result.now ≡ text_of c.args.verbose c.args.plan.now.call.dir (command_of_entry c.args.plan.now c.args.run.now.entry)
    = c.as_str.ensures.value ∙ c.in_ok-command.ensures ∙ ap (λ (d : List ℕ). text_of c.args.verbose d (command_of c.args.run.now.command)) c.dir.ensures ∙ ap (text_of c.args.verbose c.args.plan.now.call.dir) c.requires.command in
    let name : option_map (λ n. n.now) c.told_name.result ≡ told_name c.args.verbose (name_in (chosen_package_at c.args.plan.now.packages c.args.run.now.entry.package))
    = c.told_name.ensures ∙ ap (told_name c.args.verbose) c.requires.name in
    let P : List ℕ → Type 0 = λ bs. IfOk c.format.result (λ s. string_bytes s ≡ bs) in
    subst P (ap (λ (x : List ℕ). status_text c.args.verb.now x (option_map (λ n. n.now) c.told_name.result) (c.args.place + 1) c.total_of-total.result) text
    ∙ ap (λ (x : Option (List ℕ)). status_text c.args.verb.now (text_of c.args.verbose c.args.plan.now.call.dir (command_of_entry c.args.plan.now c.args.run.now.entry)) x (c.args.place + 1) c.total_of-total.result) name
    ∙ ap (λ (x : Option ℕ). status_text c.args.verb.now (text_of c.args.verbose c.args.plan.now.call.dir (command_of_entry c.args.plan.now c.args.run.now.entry)) (told_name c.args.verbose (name_in (chosen_package_at c.args.plan.now.packages c.args.run.now.entry.package))) (c.args.place + 1) x) c.total_of-total.ensures.value)
    c.format.ensures.ok
