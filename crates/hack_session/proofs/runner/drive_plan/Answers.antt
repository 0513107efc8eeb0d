use Rattle.std.proofs.Common.{◌≡◌, ◌∙◌, length, subst}
use Rattle.hack_plan.specs.View.{PlanView}
use Rattle.hack_session.specs.Handouts.{HandsOut}
use Rattle.hack_session.proofs.Headline.{hands_out, schedule_of, whole}
use Rattle.hack_session.proofs.runner.drive_plan.Goals as goal

pub returns-clause-hands_out : goal.returns-clause-hands_out
returns-clause-hands_out g c =
    let plan : c.drive.result.plan ≡ c.args.plan = c.drive.ensures.same.plan ∙ c.in_ok-session.ensures.plan in
    subst (λ (p : PlanView). HandsOut c.args.partition (length p.entries) c.drive.result) plan
    (hands_out c.args.partition c.drive.result
    (schedule_of c.args.partition c.in_ok-session.session c.drive.result c.args.plan c.drive.ensures.same c.in_ok-session.ensures.plan c.in_ok-session.ensures.schedule)
    c.drive.ensures.history c.drive.ensures.complete)

pub returns-clause-whole : goal.returns-clause-whole
returns-clause-whole g c = whole c.drive.result c.drive.ensures.history c.drive.ensures.complete
