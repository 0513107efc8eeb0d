use Rattle.std.proofs.Common.{[], refl}
use Rattle.hack_base.proofs.StreamLemmas.{wrote_more}
use Rattle.hack_base.specs.Streams.{stream_of}
use Rattle.hack_files.proofs.saved.Saved.put_back.Goals as goal

pub returns-in-Ok-clause-shown : goal.returns-in-Ok-clause-shown
returns-in-Ok-clause-shown g c = wrote_more _ [] _ (stream_of g.W.Sink c.tell.new.err) _ c.tell.ensures.told refl

pub returns-in-Err-clause-shown : goal.returns-in-Err-clause-shown
returns-in-Err-clause-shown g c = wrote_more _ _ _ (stream_of g.W.Sink c.tell.new.err) _ c.tell.ensures.told c.tell_refusal.ensures.told
