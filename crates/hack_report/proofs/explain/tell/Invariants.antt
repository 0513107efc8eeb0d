use Rattle.std.proofs.Common.{drop, map}
use Rattle.hack_base.specs.Notes.{note_of}
use Rattle.hack_base.specs.Streams.{Stream, WritesAll, stream_of}
use Rattle.hack_term.specs.Lines.{info_line}
use Rattle.hack_report.proofs.explain.tell.Given as goal

-- what the notices that are left will add, after what was printed, is what all of them add
abbrev pub invariant-loop-notice : goal.invariant-loop-notice
invariant-loop-notice g l = (end : Stream) → WritesAll (map (λ note. info_line l.term.coloring note.text) (map note_of (drop l.notice-index l.notices))) (stream_of g.E.Sink l.err) end
    → WritesAll (map (λ note. info_line l.term.coloring note.text) (map note_of l.notices)) (stream_of g.E.Sink l.fn.err) end
