use Rattle.std.proofs.Common.{◌≡◌, map, string_bytes, take}
use Rattle.std.specs.Fmt.{HasWritten, IsPlainFormatter}
use Rattle.hack_plan.specs.Internal.{is_still_first, joined_names}
use Rattle.hack_plan.proofs.line.put_names.Given as goal

-- the names so far are written
abbrev pub invariant-loop-name : goal.invariant-loop-name
invariant-loop-name g l =
    (l.is_first ≡ is_still_first l.fn.is_first (map string_bytes (take l.name-index l.names)))
    × (IsPlainFormatter l.initial.f → HasWritten g.W.Write.write_str_gives l.initial.f (joined_names l.fn.is_first (map string_bytes (take l.name-index l.names))) l.f)
