use Rattle.std.proofs.Common.{◌≡◌, take}
use Rattle.hack_features.specs.Samples.{positions_of}
use Rattle.hack_least.proofs.members_of.Given as goal

abbrev pub invariant-loop-place : goal.invariant-loop-place
invariant-loop-place l = l.members.items ≡ positions_of (take l.place l.set)
