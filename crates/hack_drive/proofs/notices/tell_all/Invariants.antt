use Rattle.std.proofs.Common.{◌≡◌, drop, map}
use Rattle.hack_base.specs.Notes.{note_of}
use Rattle.hack_base.specs.Streams.{Stream, WritesAll, stream_of}
use Rattle.hack_drive.specs.Shown.{note_lines}
use Rattle.hack_drive.specs.Warnings.{after_notes}
use Rattle.hack_drive.proofs.notices.tell_all.Given as goal

-- what the notices that are left will add, after what was printed, is what all of them add
abbrev pub invariant-loop-notice : goal.invariant-loop-notice
invariant-loop-notice g l = record {
  noted : after_notes l.term (map note_of (drop l.notice-index l.notices)) ≡ after_notes l.fn.term (map note_of l.notices);
  coloring : l.term.coloring ≡ l.fn.term.coloring;
  shown : (end : Stream) → WritesAll (note_lines l.fn.term.coloring (map note_of (drop l.notice-index l.notices))) (stream_of g.E.Sink l.err) end
      → WritesAll (note_lines l.fn.term.coloring (map note_of l.notices)) (stream_of g.E.Sink l.fn.err) end;
}
