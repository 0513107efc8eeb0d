use Rattle.std.proofs.Common.{rules, ◌≡◌, Some, slice_get}
use Rattle.hack_plan.proofs.TwoLemmas.{have-two, at-first}
use Rattle.hack_plan.proofs.versions.have_two.Goals as goal

pub returns-in-Some : goal.returns-in-Some
returns-in-Some c =
    let e : slice_get c.args.packages.now 0 ≡ Some c.in-Some.head.now = search rules in
    have-two c.args.packages.now c.in-Some.head.now c.differs.result (at-first c.args.packages.now c.in-Some.head.now e) c.differs.ensures
