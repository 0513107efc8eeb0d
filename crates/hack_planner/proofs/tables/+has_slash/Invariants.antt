use Rattle.std.proofs.Common.{length}
use Rattle.hack_planner.proofs.tables.+has_slash.Given as goal

abbrev pub decreases-has_slash : goal.decreases-has_slash
decreases-has_slash l = length l.bytes.now
