use Rattle.std.proofs.Common.{◌<◌, arith}
use Rattle.hack_conflicts.specs.Rules.{size_of}
use Rattle.hack_conflicts.proofs.shrink.shrink.Goals as goal

pub returns-clause-least : goal.returns-clause-least
returns-clause-least g c = λ x member.
    let e = c.in_ok-left.ensures in
    let lt : x < size_of c.args.rules.now = e.failing.choice.closed.below x member in
    e.needs x (omega arith) (omega (arith, c.len-n.ensures, c.args.rules.now.enables.ok.0)) member
