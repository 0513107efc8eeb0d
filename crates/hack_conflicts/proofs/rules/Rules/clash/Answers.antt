use Rattle.std.proofs.Common.{arith}
use Rattle.hack_conflicts.specs.Sets.{rows_of}
use Rattle.hack_conflicts.specs.Rules.{HasOneOf}
use Rattle.hack_conflicts.proofs.SetLemmas.{each_set, length-rows}
use Rattle.hack_conflicts.proofs.rules.Rules.clash.Goals as goal

pub returns : goal.returns
returns c =
    each_set (HasOneOf c.args.self.now c.args.set.now) (rows_of c.args.self.now.exclusive.items) c.loop-place.place (omega (arith, length-rows c.args.self.now.exclusive.items, c.args.self.now.exclusive.ok.0)) c.loop-place.invariant
