use Rattle.std.proofs.Common.{◌≡◌, map, string_bytes, length, nat_lt}
use Rattle.std.specs.List.{filter}
use Rattle.hack_base.proofs.lists.split_names.Given as goal

abbrev pub invariant-loop-name : goal.invariant-loop-name
invariant-loop-name l = map string_bytes l.names.items ≡ filter (λ name. nat_lt 0 (length name)) (map (λ name. name.now) l.yielded)
