use Rattle.std.proofs.Common.{◌∙◌, ap, sym}
use Rattle.std.specs.List.{slice_index_or}
use Rattle.std.proofs.lemmas.Option.{get_or_from_slice_get}
use Rattle.hack_plan.specs.Runs.{PackageRun, Plain, run_of}
use Rattle.hack_plan.specs.RunsView.{runs_in}
use Rattle.hack_process.specs.CommandTexts.{Command}
use Rattle.hack_plan.specs.View.{CallView, PlanView, call_view, plan_package_view}
use Rattle.hack_plan.specs.Commands.{run_command}
use Rattle.hack_plan.proofs.plan.Plan.of_package.Goals as goal

pub returns-clause-command : goal.returns-clause-command
returns-clause-command c =
    let call = call_view c.self.inside.words in
    let runs = runs_in c.args.member.now.runs in
    let command : CallView → PackageRun → Command = λ call run. run_command call c.args.entry.version c.args.entry.slot (plan_package_view c.args.member.now) run in
    c.of_package.ensures.command
    ∙ ap (command call) (sym (get_or_from_slice_get runs c.args.entry.rank (run_of c.in_ok-run.run' c.run.new.positions.items) Plain c.in_ok-run.ensures))
    ∙ ap (λ (plan : PlanView). command plan.call (slice_index_or runs c.args.entry.rank Plain)) c.self.view_is
