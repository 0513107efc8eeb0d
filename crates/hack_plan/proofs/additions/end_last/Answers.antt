use Rattle.std.proofs.Common.{◌≡◌, ◌<◌, ◌-◌, length, ap, arith, refl, vec_len}
use Rattle.hack_plan.specs.InternalRuns.{with_end}
use Rattle.hack_plan.proofs.GrowingPlans.{set-changed}
use Rattle.hack_plan.proofs.additions.end_last.Goals as goal

pub returns-in-Some : goal.returns-in-Some
returns-in-Some c =
    let versions = c.args.versions.now in
    let last = c.in-Some.last.now in
    let same : vec_len versions ≡ length versions.items = versions.ok.0 in
    let some : 0 < vec_len versions = c.in-Some.ensures.variant.0 refl in
    set-changed (with_end c.args.end) versions.items (vec_len versions - 1) (length versions.items - 1) _ last (omega (arith, same, some)) (omega (arith, same)) (ap (with_end c.args.end) c.in-Some.ensures.value)
