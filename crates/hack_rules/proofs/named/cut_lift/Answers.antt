use Rattle.std.proofs.Common.{rules}
use Rattle.hack_rules.proofs.named.cut_lift.Goals as goal
use Rattle.hack_rules.proofs.named.cut_lift.Goals.{then-is_empty-via-then-is_empty, then-is_empty-via-else-is_empty+then-not-has_separator}

pub returns-then-is_empty : goal.returns-then-is_empty
returns-then-is_empty c = elim c.then-is_empty.branch [
  | then-is_empty-via-then-is_empty w ↦ search rules
  | then-is_empty-via-else-is_empty+then-not-has_separator w ↦ search rules
]
