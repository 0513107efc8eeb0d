use Rattle.std.proofs.Common.{◌≡◌, ◌<◌, ◌-◌, arith, length}
use Rattle.hack_msrv.proofs.SearchLemmas.{found-version}
use Rattle.hack_msrv.proofs.package.find_version.Goals as goal

pub returns : goal.returns
returns g c =
    let s = c.find_least-least.ensures.searched in
    let runner_is = c.runner-1.given.1 s.1.0 in
    let some : 0 < length c.args.uses.now = omega (arith, c.in-Some.ensures) in
    let top : c.in-Some.greatest ≡ length c.args.uses.now - 1 = omega (arith, c.in-Some.ensures) in
    rw runner_is (found-version g.R.Runner.ran g.R.Judge.ended c.args.plan.now c.args.member c.args.uses.now c.in-Some.greatest c.find_least-least.result s.0 c.find_least-least.new.tries.failed
    c.args.runner.now c.find_least-least.new.tries.runner.now c.requires some top s.1.2 s.2 s.3 c.found.result c.found.ensures)
