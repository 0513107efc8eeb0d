use Rattle.std.proofs.Common.{◌∙◌}
use Rattle.hack_features.specs.ClosureLaws.{same_none, same_more}
use Rattle.hack_least.proofs.SetLemmas.{same-size, same-permitted}
use Rattle.hack_least.proofs.count_ties.Goals as goal

pub loop-position-init : goal.loop-position-init
loop-position-init c = same_none c.args.rules.now

pub joins-requires : goal.joins-requires
joins-requires c = record {
  size = c.requires.size ∙ same-size c.args.rules.now c.loop-position.rules c.loop-position.invariant;
  inside = c.loop-position-test.true;
  permitted = same-permitted c.args.rules.now c.loop-position.rules c.args.set.now c.loop-position.invariant c.requires.permitted;
}

pub loop-position-preserved : goal.loop-position-preserved
loop-position-preserved c = same_more c.args.rules.now c.loop-position.rules c.joins.new.rules c.loop-position.invariant c.joins.ensures.same
