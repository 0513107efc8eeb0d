use Rattle.std.proofs.Common.{map}
use Rattle.std.specs.List.{flat_map}
use Rattle.std.specs.Fmt.{HasWritten, IsPlainFormatter}
use Rattle.std.specs.Map.Iter.{deref_pair}
use Rattle.hack_session.specs.Reports.{package_group_text}
use Rattle.hack_session.proofs.report.GroupsDisplay.fmt.Given as goal

abbrev pub invariant-loop-name : goal.invariant-loop-name
invariant-loop-name g l =
    IsPlainFormatter l.initial.f → HasWritten g.W.Write.write_str_gives l.initial.f (flat_map package_group_text (map deref_pair l.yielded)) l.f
