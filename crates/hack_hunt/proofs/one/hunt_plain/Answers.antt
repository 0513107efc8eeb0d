use Rattle.std.proofs.Common.{subst}
use Rattle.std.specs.Prelude.{IfErr, IfOk}
use Rattle.hack_features.specs.Rules.{Choice}
use Rattle.hack_hunt.specs.Internal.{EndsAmong, RanAmong}
use Rattle.hack_hunt.specs.SpotView.{spot_view}
use Rattle.hack_hunt.proofs.RuleLemmas.{plain_choice}
use Rattle.hack_hunt.proofs.one.hunt_plain.Goals as goal

pub returns-clause-hunted : goal.returns-clause-hunted
returns-clause-hunted g c = λ features.
    let choice = plain_choice c.args.asked.now c.args.pkg.now features c.as_slice-exclusive.result.now c.as_slice-exclusive.ensures.value c.requires.depth c.in_ok-rules.rules c.in_ok-rules.ensures.choice in
    subst (λ (x : Choice). IfOk c.hunt_among.result (λ hunted. RanAmong g.R.Runner.ran g.R.Judge.ended x c.args.ends (spot_view c.args.spot) c.args.most_runs hunted c.args.plan.now c.hunt_among.new.plan c.args.runner.now c.hunt_among.new.runner)) choice c.hunt_among.ensures.hunted

pub returns-clause-fault : goal.returns-clause-fault
returns-clause-fault g c = λ features.
    let choice = plain_choice c.args.asked.now c.args.pkg.now features c.as_slice-exclusive.result.now c.as_slice-exclusive.ensures.value c.requires.depth c.in_ok-rules.rules c.in_ok-rules.ensures.choice in
    subst (λ (x : Choice). IfErr c.hunt_among.result (λ why. EndsAmong g.R.Runner.ran g.R.Judge.ended x c.args.ends (spot_view c.args.spot) c.args.most_runs why c.args.plan.now c.hunt_among.new.plan c.args.runner.now c.hunt_among.new.runner)) choice c.hunt_among.ensures.fault
