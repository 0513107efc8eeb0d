use Rattle.std.proofs.Common.{◌≡◌, map, string_bytes}
use Rattle.hack_base.proofs.lists.split_group.Given as goal

abbrev pub invariant-loop-name : goal.invariant-loop-name
invariant-loop-name l = map string_bytes l.names.items ≡ map (λ name. name.now) l.yielded
