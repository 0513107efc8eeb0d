use Rattle.std.proofs.Common.{◌≡◌, take}
use Rattle.hack_suspects.proofs.patterns.compare_places.Given as goal

abbrev pub invariant-loop-place : goal.invariant-loop-place
invariant-loop-place l = take l.place l.one ≡ take l.place l.other
