use Rattle.std.proofs.Common.{map, string_bytes, take}
use Rattle.std.specs.List.{flat_map}
use Rattle.std.specs.Fmt.{HasWritten, IsPlainFormatter}
use Rattle.hack_plan.specs.Lines.{shown_target}
use Rattle.hack_plan.proofs.line.TargetsDisplay.fmt.Given as goal

abbrev pub invariant-loop-target : goal.invariant-loop-target
invariant-loop-target g l =
    IsPlainFormatter l.initial.f → HasWritten g.W.Write.write_str_gives l.initial.f (flat_map shown_target (map string_bytes (take l.target-index l.target-items))) l.f
