use Rattle.std.proofs.Common.{◌-◌}
use Rattle.hack_conflicts.proofs.shrink.+shrink_block.Given as goal

abbrev pub decreases-shrink_block : goal.decreases-shrink_block
decreases-shrink_block g l = l.to - l.from
