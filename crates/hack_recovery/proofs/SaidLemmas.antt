-- What is said, line by line.
use Rattle.std.proofs.Common.{◌≡◌, ◌++◌, ◌∷◌, [], ℕ, List, Result, OnOk, refl, subst, sym}
use Rattle.std.specs.Io.KnownBytes.{Appends}
use Rattle.hack_base.proofs.StreamLemmas.{wrote}
use Rattle.hack_base.specs.Names.{Name}
use Rattle.hack_base.specs.Streams.{Stream, WritesText, stream_of}
use Rattle.hack_base.specs.Writes.{AppendsFront, CountsErrors}
use Rattle.hack_base.specs.declared.writes.Sink.{Ghosts as Taking}
use Rattle.hack_term.specs.declared.term.Coloring.{Coloring}
use Rattle.hack_recovery.specs.Telling.{SaysFileRestored, SaysRestored}

-- a line was written, whose text is known
pub wrote_as : {S T E : Type 0} (s : Taking S) (a b : S) (line : List ℕ → List ℕ) (text known : List ℕ) (r : Result T E) → text ≡ known → OnOk r (Appends (s.contents a) (s.contents b) (line text)) → AppendsFront (s.contents a) (s.contents b) (line text)
    → CountsErrors (s.failed a) (s.failed b) r → WritesText (line known) (stream_of s a) (stream_of s b)
wrote_as s a b line text known r is all front counted = subst (λ (t : List ℕ). WritesText (line t) (stream_of s a) (stream_of s b)) is (wrote s a b (line text) r all front counted)

module _ (coloring : Coloring) (dir : Name) where
  -- one more file was restored
  said_then : (before : List Name) (path : Name) (old mid new : Stream) → SaysRestored coloring dir before old mid → SaysFileRestored coloring dir path mid new → SaysRestored coloring dir (before ++ path ∷ []) old new
  said_then [] path old mid new was said = (new, subst (λ (s : Stream). SaysFileRestored coloring dir path s new) was said, refl)
  said_then (first ∷ before) path old mid new was said = (was.0, was.1, said_then before path was.0 mid new was.2 said)

  pub said_more : (before more : List Name) (path : Name) (old mid new : Stream) → more ≡ before ++ path ∷ [] → SaysRestored coloring dir before old mid → SaysFileRestored coloring dir path mid new → SaysRestored coloring dir more old new
  said_more before more path old mid new is was said = subst (λ (paths : List Name). SaysRestored coloring dir paths old new) (sym is) (said_then before path old mid new was said)
