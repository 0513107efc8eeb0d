use Rattle.std.proofs.Common.{◌∙◌, sym, ap}
use Rattle.hack_features.specs.ClosureLaws.{same_more}
use Rattle.hack_features.specs.Samples.{positions_of}
use Rattle.hack_least.proofs.SetLemmas.{same-permitted}
use Rattle.hack_least.proofs.grow.Goals as goal

pub add-requires-clause-permitted : goal.add-requires-clause-permitted
add-requires-clause-permitted c =
    same-permitted c.args.rules.now c.loop-position.rules c.loop-position.set.items c.loop-position.invariant.same c.loop-position.invariant.permitted

pub loop-position-preserved : goal.loop-position-preserved
loop-position-preserved c =
    let inv = c.loop-position.invariant in
    record {
      size = c.add.ensures.size ∙ inv.size;
      permitted = sym (ap (λ may. may (positions_of c.add.new.set.items)) inv.same.may) ∙ c.add.ensures.permitted;
      same = same_more c.args.rules.now c.loop-position.rules c.add.new.rules inv.same c.add.ensures.same;
    }
