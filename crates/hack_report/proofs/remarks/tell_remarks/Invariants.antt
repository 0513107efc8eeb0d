use Rattle.std.proofs.Common.{◌≡◌, drop, map}
use Rattle.std.specs.Prelude.{◌||◌}
use Rattle.std.specs.List.{list_any}
use Rattle.hack_base.specs.Streams.{Stream, WritesAll, stream_of}
use Rattle.hack_report.specs.Remarks.{is_error_remark, is_warning_remark, remark_lines, remark_of}
use Rattle.hack_report.proofs.remarks.tell_remarks.Given as goal

-- what is noted and written so far, and what the lines that are left add, is what all of them say
abbrev pub invariant-loop-remark : goal.invariant-loop-remark
invariant-loop-remark g l = record {
  error : (l.term.error || list_any is_error_remark (map remark_of (drop l.remark-index l.remarks))) ≡ list_any is_error_remark (map remark_of l.remarks);
  warn : (l.term.warn || list_any is_warning_remark (map remark_of (drop l.remark-index l.remarks))) ≡ list_any is_warning_remark (map remark_of l.remarks);
  coloring : l.term.coloring ≡ l.fn.coloring;
  shown : (end : Stream) → WritesAll (remark_lines l.fn.coloring (map remark_of (drop l.remark-index l.remarks))) (stream_of g.E.Sink l.err) end
      → WritesAll (remark_lines l.fn.coloring (map remark_of l.remarks)) (stream_of g.E.Sink l.fn.err) end;
}
