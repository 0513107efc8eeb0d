use Rattle.std.proofs.Common.{◌≡◌, Option, length, take}
use Rattle.std.specs.List.{flat_map}
use Rattle.hack_partition.specs.declared.partition.Partition.{Partition}
use Rattle.hack_session.specs.Schedules.{in_piece, steps_of}
use Rattle.hack_session.proofs.schedule.count_steps.Given as goal

abbrev pub invariant-loop-version : goal.invariant-loop-version
invariant-loop-version l = (piece : Option Partition) → l.count ≡ length (flat_map (steps_of (in_piece piece (length l.plan.entries))) (take l.version-index l.version-items))
