use Rattle.std.proofs.Common.{◌≡◌, ◌++◌, drop, map}
use Rattle.hack_load.specs.ContextView.{context_view}
use Rattle.hack_report.specs.Findings.{found_remarks}
use Rattle.hack_report.specs.Remarks.{remark_of}
use Rattle.hack_report.proofs.findings.tell_found.Given as goal

-- the lines so far, and those on the packages that are left, are all
abbrev pub invariant-loop-member : goal.invariant-loop-member
invariant-loop-member g l = map remark_of l.remarks.items ++ found_remarks (context_view l.fn.cx) l.fn.plan l.member (drop l.member l.fn.found) ≡ found_remarks (context_view l.fn.cx) l.fn.plan 0 l.fn.found
