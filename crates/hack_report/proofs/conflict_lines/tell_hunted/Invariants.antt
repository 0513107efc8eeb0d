use Rattle.std.proofs.Common.{◌≡◌, map, take}
use Rattle.hack_report.specs.Conflicts.{hunted_remarks}
use Rattle.hack_report.specs.Remarks.{remark_of}
use Rattle.hack_report.proofs.conflict_lines.tell_hunted.Given as goal

-- the lines on the packages so far
abbrev pub invariant-loop-one : goal.invariant-loop-one
invariant-loop-one g l = map remark_of l.remarks.items ≡ hunted_remarks l.fn.verbose l.fn.plan (take l.one-index l.found)
