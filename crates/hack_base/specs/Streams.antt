-- Texts that are written to a stream, one after the other.
use Rattle.std.specs.Prelude.{◌≡◌, ◌⊎◌, ℕ, List, [], ◌∷◌, Option}
use Rattle.std.specs.Io.KnownBytes.{Appends}
use Rattle.hack_base.specs.Writes.{AppendsFront, HasFailed, NoFewer}
use Rattle.hack_base.specs.declared.writes.Sink.{Ghosts as Taking}

-- a stream: its bytes, where they are known, and how often it failed, where that is counted
pub record Stream : Type 0 where
  pub bytes : Option (List ℕ)
  pub failed : Option ℕ

abbrev pub stream_of : {E : Type 0} → Taking E → E → Stream
stream_of e err = record { bytes = e.contents err; failed = e.failed err }

-- a text was written whole; or a front of it, and a failure was counted for it
abbrev pub WritesText : List ℕ → Stream → Stream → Type 0
WritesText text old new =
    (Appends old.bytes new.bytes text × NoFewer old.failed new.failed)
    ⊎ (AppendsFront old.bytes new.bytes text × HasFailed old.failed new.failed)

-- just these texts were written, one after the other
abbrev pub WritesAll : List (List ℕ) → Stream → Stream → Type 0
WritesAll [] old new = new ≡ old
WritesAll (text ∷ more) old new = (mid : Stream) × WritesText text old mid × WritesAll more mid new
