use Rattle.std.proofs.Common.{drop, map, string_bytes}
use Rattle.hack_base.specs.Streams.{Stream, WritesAll, stream_of}
use Rattle.hack_term.specs.Lines.{info_line}
use Rattle.hack_run.proofs.stages.tell_infos.Given as goal

-- what the texts that are left will add, after what was printed, is what all of them add
abbrev pub invariant-loop-text : goal.invariant-loop-text
invariant-loop-text g l = (end : Stream) → WritesAll (map (info_line l.term.coloring) (map string_bytes (drop l.text-index l.texts))) (stream_of g.E.Sink l.err) end
    → WritesAll (map (info_line l.term.coloring) (map string_bytes l.texts)) (stream_of g.E.Sink l.fn.err) end
