use Rattle.std.proofs.Common.{◌≤◌}
use Rattle.hack_private_crates.proofs.exclude.last_end.Given as goal

abbrev pub invariant-loop : goal.invariant-loop
invariant-loop l = l.from ≤ l.m
