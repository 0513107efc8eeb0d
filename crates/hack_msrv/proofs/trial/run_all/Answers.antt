use Rattle.std.proofs.Common.{◌-◌, List, ◌++◌, arith, filter, map, sym, subst}
use Rattle.std.specs.List.{range_with_len}
use Rattle.hack_session.specs.Histories.{passed_step}
use Rattle.hack_session.specs.declared.step.Handed.{Handed}
use Rattle.hack_session.specs.declared.step.Step.TheVariants.{Run}
use Rattle.hack_msrv.specs.Trials.{StopsAt, is_of, places_of}
use Rattle.hack_msrv.proofs.TrialLemmas.{came-by, fails-at, runs-more}
use Rattle.hack_msrv.proofs.trial.run_all.Goals as goal

pub returns-then-not-run_at : goal.returns-then-not-run_at
returns-then-not-run_at g c =
    let plan = c.args.plan.now in
    let v = c.args.version.now in
    let place = c.loop-place.place in
    let before = c.loop-place.invariant.passed in
    let here = c.if-not-run_at.ensures in
    let steps = map Run (places_of plan c.args.member v) in
    let passed = map passed_step (map Run (filter (is_of plan c.args.member) (range_with_len v.first (place - v.first)))) in
    let stops = subst (λ (l : List Handed). StopsAt steps (l ++ here.0) (Run place)) (sym before.2)
    (subst (λ (l : List Handed). StopsAt steps (passed ++ l) (Run place)) (sym here.2.1) (fails-at plan c.args.member v place c.loop-place.invariant.behind c.loop-place-test.true here.2.0)) in
    (before.0 ++ here.0, g.met.R.Runner.ran_more plan before.0 here.0 c.args.runner.now c.loop-place.runner c.run_at.new.runner before.1 here.1, came-by (g.R.Judge.ended c.run_at.new.runner) steps (before.0 ++ here.0) place c.failed_at.result stops c.failed_at.ensures)

pub loop-place-preserved : goal.loop-place-preserved
loop-place-preserved g c =
    let plan = c.args.plan.now in
    let before = c.loop-place.invariant.passed in
    let here = c.if-not-run_at.ensures in
    record {
      behind = omega (arith, c.loop-place.invariant.behind);
      within = omega (arith, c.loop-place.invariant.behind, c.loop-place-test.true);
      passed = (
        before.0 ++ here.0,
        g.met.R.Runner.ran_more plan before.0 here.0 c.args.runner.now c.loop-place.runner c.run_at.new.runner before.1 here.1,
        runs-more plan c.args.member c.args.version.now.first c.loop-place.place c.loop-place.invariant.behind before.0 here.0 before.2 here.2,
      );
    }
