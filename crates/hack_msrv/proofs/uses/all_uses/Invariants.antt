use Rattle.std.proofs.Common.{◌≡◌, map}
use Rattle.std.specs.List.{range_with_len}
use Rattle.hack_msrv.specs.Searches.{uses_of}
use Rattle.hack_msrv.proofs.uses.all_uses.Given as goal

abbrev pub invariant-loop-member : goal.invariant-loop-member
invariant-loop-member l = map (λ uses. uses.items) l.all.items ≡ map (uses_of l.plan) (range_with_len 0 l.member)
