use Rattle.std.proofs.Common.{List, ap, arith, ◌∙◌}
use Rattle.hack_session.specs.declared.step.Outcome.{Outcome}
use Rattle.hack_session.specs.Cursors.{with_outcomes}
use Rattle.hack_session.specs.Schedules.{all_steps}
use Rattle.hack_session.proofs.CursorLemmas.{no_outcomes, sets_out}
use Rattle.hack_session.proofs.session.Session.new.Goals as goal

pub invariant_of-result : goal.invariant_of-result
invariant_of-result c = (
  omega (arith, c.in-Some.ensures.count c.args.partition, c.in_ok-outcomes.ensures.exact),
  rw c.in_ok-outcomes.ensures.items (sets_out c.args.partition c.args.plan c.start.result c.args.keep_going c.start.ensures.version c.start.ensures.taken),
)

pub returns-clause-handed : goal.returns-clause-handed
returns-clause-handed c =
    ap (λ (outcomes : List Outcome). with_outcomes (all_steps c.args.partition c.args.plan) outcomes) c.in_ok-outcomes.ensures.items ∙ no_outcomes (all_steps c.args.partition c.args.plan)
