use Rattle.std.proofs.Common.{◌≡◌, ◌∙◌, Option, None, Some, IfOk, Result, Ok, Err, ap, option_map, sym}
use Rattle.hack_plan.specs.declared.places.PlanEntry.{PlanEntry}
use Rattle.hack_process.specs.CommandTexts.{listed_of}
use Rattle.hack_plan.specs.declared.line.RunLine.{RunLine}
use Rattle.hack_plan.specs.View.{PackageView, PlanView, call_view, plan_package_view}
use Rattle.hack_plan.specs.Commands.{command_of_entry, chosen_package_at, ranked_command, whole_command}
use Rattle.hack_plan.specs.Lines.{command_in, listed_text}
use Rattle.hack_plan.proofs.plan.Plan.line.Goals as goal

-- the line of the entry at a place
line-at : (plan : PlanView) (line : RunLine) (o : Option PlanEntry) (q : PlanEntry) (k : Option PackageView) → o ≡ Some q → k ≡ chosen_package_at plan.packages q.package → (call_view line.words.now).dir ≡ plan.call.dir
    → command_in line ≡ ranked_command plan.call q.version q.slot k q.rank → option_map (λ entry. listed_of plan.call.dir (command_of_entry plan entry)) o ≡ Some (listed_text line)
line-at plan line o q k e f d h =
    ap (option_map (λ entry. listed_of plan.call.dir (command_of_entry plan entry))) e
    ∙ ap (λ p. Some (listed_of plan.call.dir (ranked_command plan.call q.version q.slot p q.rank))) (sym f)
    ∙ (λ i. Some (listed_of (sym d i) (sym h i)))

-- the same, where the line may not be made
line-in : {E : Type 0} (plan : PlanView) (r : Result RunLine E) (o : Option PlanEntry) (q : PlanEntry) (k : Option PackageView) → o ≡ Some q → k ≡ chosen_package_at plan.packages q.package → IfOk r (λ line. (call_view line.words.now).dir ≡ plan.call.dir)
    → IfOk r (λ line. command_in line ≡ ranked_command plan.call q.version q.slot k q.rank) → IfOk r (λ line. option_map (λ entry. listed_of plan.call.dir (command_of_entry plan entry)) o ≡ Some (listed_text line))
line-in plan (Ok line) o q k e f d h = line-at plan line o q k e f d h
line-in plan (Err fault) o q k e f d h = tt

pub returns-in-None-clause-text : goal.returns-in-None-clause-text
returns-in-None-clause-text c =
    let entry = c.entry-entry.result in
    line-at c.args.self.now c.whole.result _ entry None c.entry-entry.ensures c.in-None.ensures
    (ap (λ words. (call_view words).dir) c.whole.ensures.words ∙ ap (λ (plan : PlanView). plan.call.dir) c.self.view_is)
    (c.whole.ensures.command ∙ ap (λ (plan : PlanView). whole_command plan.call entry.version entry.slot) c.self.view_is)

pub returns-in-Some-clause-text : goal.returns-in-Some-clause-text
returns-in-Some-clause-text c = line-in c.args.self.now c.of_package.result _ c.entry-entry.result (Some (plan_package_view c.in-Some.member.now)) c.entry-entry.ensures c.in-Some.ensures c.of_package.ensures.dir c.of_package.ensures.command
