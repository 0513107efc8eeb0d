use Rattle.std.proofs.Common.{◌≡◌, ◌≤◌, ◌^◌, ℕ, Option, arith, length, rules, subst, sym}
use Rattle.std.specs.Prelude.{MatchOption}
use Rattle.hack_session.specs.Schedules.{all_steps, in_piece}
use Rattle.hack_session.proofs.ScheduleLemmas.{counted_less, counted_more, found, schedule_is, tiled_at}
use Rattle.hack_session.proofs.schedule.count_steps.Goals as goal

pub overflow_sub-version : goal.overflow_sub-version
overflow_sub-version c =
    (tiled_at 0 c.args.plan.now.versions (length c.args.plan.now.entries) c.loop-version.version-index c.version-item.result c.versions-version-items.ensures.tiled
    (found c.args.plan.now.versions c.versions-version-items.result.now c.loop-version.version-index c.version-item.result c.versions-version-items.ensures.value c.loop-version-test.true c.version-item.is)).0

pub returns-in_err-count-clause-schedule : goal.returns-in_err-count-clause-schedule
returns-in_err-count-clause-schedule c = λ piece. schedule_is piece c.args.plan.now c.versions-version-items.ensures.tiled

pub returns-in_err-count-clause-count : goal.returns-in_err-count-clause-count
returns-in_err-count-clause-count c = λ piece.
    let own : c.len.result ≡ length c.version-item.result.preparations.items = search rules in
    let less = counted_less (in_piece piece (length c.args.plan.now.entries)) c.args.plan.now.versions c.versions-version-items.result.now c.loop-version.version-index c.version-item.result c.loop-version.count c.len.result c.versions-version-items.ensures.value c.loop-version-test.true c.version-item.is own (c.loop-version.invariant piece) in
    let many : 2 ^ 64 ≤ length (all_steps piece c.args.plan.now) = omega (arith, less, c.in_err-count.ensures) in
    subst (λ (o : Option ℕ). MatchOption o (2 ^ 64 ≤ length (all_steps piece c.args.plan.now)) (λ n. n ≡ length (all_steps piece c.args.plan.now))) (sym c.from_residual.ensures) many

pub returns-in_err-count-2-clause-schedule : goal.returns-in_err-count-2-clause-schedule
returns-in_err-count-2-clause-schedule c = λ piece. schedule_is piece c.args.plan.now c.versions-version-items.ensures.tiled

pub returns-in_err-count-2-clause-count : goal.returns-in_err-count-2-clause-count
returns-in_err-count-2-clause-count c = λ piece.
    let own : c.len.result ≡ length c.version-item.result.preparations.items = search rules in
    let less = counted_less (in_piece piece (length c.args.plan.now.entries)) c.args.plan.now.versions c.versions-version-items.result.now c.loop-version.version-index c.version-item.result c.loop-version.count c.len.result c.versions-version-items.ensures.value c.loop-version-test.true c.version-item.is own (c.loop-version.invariant piece) in
    let many : 2 ^ 64 ≤ length (all_steps piece c.args.plan.now) = omega (arith, less, c.in_ok-count.ensures, c.in_err-count-2.ensures) in
    subst (λ (o : Option ℕ). MatchOption o (2 ^ 64 ≤ length (all_steps piece c.args.plan.now)) (λ n. n ≡ length (all_steps piece c.args.plan.now))) (sym c.from_residual-in_err-count-2.ensures) many

pub loop-version-preserved : goal.loop-version-preserved
loop-version-preserved c = λ piece.
    let own : c.len.result ≡ length c.version-item.result.preparations.items = search rules in
    let more = counted_more (in_piece piece (length c.args.plan.now.entries)) c.versions-version-items.result.now c.loop-version.version-index c.version-item.result c.loop-version.count c.len.result c.loop-version-test.true c.version-item.is own (c.loop-version.invariant piece) in
    omega (arith, more, c.in_ok-count.ensures, c.in_ok-count-2.ensures)

pub returns-clause-schedule : goal.returns-clause-schedule
returns-clause-schedule c = λ piece. schedule_is piece c.args.plan.now c.versions-version-items.ensures.tiled
