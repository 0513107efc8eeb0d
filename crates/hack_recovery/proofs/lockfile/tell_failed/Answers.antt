use Rattle.std.proofs.Common.{refl}
use Rattle.hack_base.specs.Streams.{stream_of}
use Rattle.hack_term.specs.Lines.{error_line}
use Rattle.hack_recovery.proofs.SaidLemmas.{wrote_as}
use Rattle.hack_recovery.specs.Texts.{unsettled_text}
use Rattle.hack_recovery.proofs.lockfile.tell_failed.Goals as goal

pub returns-clause-said : goal.returns-clause-said
returns-clause-said g c = (
  stream_of g.E.Sink c.tell_reason.new.err,
  c.tell_reason.ensures,
  wrote_as g.E.Sink _ _ (error_line c.args.term.now.coloring) _ (unsettled_text c.args.path.now) c.error_of.result refl c.error_of.ensures.line c.error_of.ensures.front c.error_of.ensures.counted,
)
