use Rattle.std.proofs.Common.{inr, subst}
use Rattle.hack_base.proofs.StreamLemmas.{wrote}
use Rattle.hack_base.specs.Streams.{WritesText, stream_of}
use Rattle.hack_term.specs.Lines.{info_line}
use Rattle.hack_files.proofs.reason.tell_reason.Goals as goal

pub returns-in-Ok : goal.returns-in-Ok
returns-in-Ok g c =
    inr (
      c.as_str.result.now,
      subst (λ text. WritesText (info_line c.args.term.now.coloring text) (stream_of g.E.Sink c.args.err.now) (stream_of g.E.Sink c.info.new.out)) c.first_line.ensures
          (wrote g.E.Sink _ _ _ c.info.result c.info.ensures.line c.info.ensures.front c.info.ensures.counted),
    )
