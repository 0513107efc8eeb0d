-- Texts that are written to a stream, one after the other.
use Rattle.std.proofs.Common.{inl, inr, ℕ, List, [], ◌∷◌, ◌++◌, Result, Ok, Err, OnOk, subst}
use Rattle.std.specs.Io.KnownBytes.{Appends}
use Rattle.hack_base.specs.Streams.{Stream, WritesAll, WritesText, stream_of}
use Rattle.hack_base.specs.Writes.{AppendsFront, CountsErrors}
use Rattle.hack_base.specs.declared.writes.Sink.{Ghosts as Taking}

-- what a result says of a text that was written
pub wrote : {S T E : Type 0} (s : Taking S) (a b : S) (text : List ℕ) (r : Result T E) → OnOk r (Appends (s.contents a) (s.contents b) text) → AppendsFront (s.contents a) (s.contents b) text
    → CountsErrors (s.failed a) (s.failed b) r → WritesText text (stream_of s a) (stream_of s b)
wrote s a b text (Ok done) all front counted = inl (all, counted)
wrote s a b text (Err fault) all front counted = inr (front, counted)

-- texts after others
pub wrote_more : (texts more : List (List ℕ)) (old mid new : Stream) → WritesAll texts old mid → WritesAll more mid new → WritesAll (texts ++ more) old new
wrote_more [] more old mid new p q = subst (λ (s : Stream). WritesAll more s new) p q
wrote_more (text ∷ texts) more old mid new p q = (p.0, p.1, wrote_more texts more p.0 mid new p.2 q)
