use Rattle.std.proofs.Common.{◌≡◌, filter}
use Rattle.std.specs.List.{range_with_len}
use Rattle.hack_msrv.specs.Searches.{is_used}
use Rattle.hack_msrv.proofs.uses.uses.Given as goal

abbrev pub invariant-loop-index : goal.invariant-loop-index
invariant-loop-index l = l.uses.items ≡ filter (is_used l.plan l.member) (range_with_len 0 l.index)
