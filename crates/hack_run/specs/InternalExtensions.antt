-- What gathered lines keep: bytes of a writer that only grow, and why a line is missing.
use Rattle.std.proofs.Common.{◌≡◌, ◌⊎◌, ◌∙◌, ℕ, Bool, true, List, [], ◌++◌, Option, inl, inr, refl}
use Rattle.std.specs.Io.KnownBytes.{Appends}
use Rattle.std.proofs.KnownBytes.{Appends-nil, Appends-trans}
use Rattle.std.specs.Prelude.{Result, Ok, Err}
use Rattle.hack_base.specs.WriteLaws.{NoFewer-refl, NoFewer-trans, failed-first, failed-later}
use Rattle.hack_base.specs.Writes.{HasFailed, NoFewer}
use Rattle.hack_session.specs.declared.lines.LineFault.{LineFault}
use Rattle.hack_session.specs.declared.lines.LineFault.TheVariants as line

-- known bytes stay, and others may follow
abbrev pub Extends : Option (List ℕ) → Option (List ℕ) → Type 0
Extends old new = (bs : List ℕ) × Appends old new bs

pub extends_none : (a : Option (List ℕ)) → Extends a a
extends_none a = ([], Appends-nil a)

pub extends_then : (a b c : Option (List ℕ)) → Extends a b → Extends b c → Extends a c
extends_then a b c p q = (p.0 ++ q.0, Appends-trans a b c p.0 q.0 p.1 q.1)

-- ---- failures of a writer

-- a line is missing since memory ran out for it, or the writer counted a failure
abbrev pub CountsLine : {T : Type 0} → Option ℕ → Option ℕ → Result T LineFault → Type 0
CountsLine before now (Ok done) = NoFewer before now
CountsLine before now (Err line.Memory) = NoFewer before now
CountsLine before now (Err line.Unwritten) = HasFailed before now

-- where a line more is missing, memory ran out for one, or the writer counted a failure
pub record MissesForACause (before now : Option ℕ) (was_short is_short : Bool) (missed_before missed : ℕ) : Type 0 where
  pub counted : NoFewer before now
  pub stays_short : was_short ≡ true → is_short ≡ true
  pub cause : (missed ≡ missed_before) ⊎ (is_short ≡ true) ⊎ HasFailed before now

pub misses_none : (a : Option ℕ) (short : Bool) (missed : ℕ) → MissesForACause a a short short missed missed
misses_none a short missed = record { counted = NoFewer-refl a; stays_short = λ is. is; cause = inl refl }

pub misses_then : (a b c : Option ℕ) (s t u : Bool) (l m n : ℕ) → MissesForACause a b s t l m → MissesForACause b c t u m n → MissesForACause a c s u l n
misses_then a b c s t u l m n p q = record { counted = NoFewer-trans a b c p.counted q.counted; stays_short = λ is. q.stays_short (p.stays_short is); cause = go p.cause q.cause }
  where
    go : (m ≡ l) ⊎ (t ≡ true) ⊎ HasFailed a b → (n ≡ m) ⊎ (u ≡ true) ⊎ HasFailed b c → (n ≡ l) ⊎ (u ≡ true) ⊎ HasFailed a c
    go first (inr (inl short)) = inr (inl short)
    go first (inr (inr failed)) = inr (inr (failed-later a b c p.counted failed))
    go (inl same) (inl is) = inl (is ∙ same)
    go (inr (inl short)) (inl is) = inr (inl (q.stays_short short))
    go (inr (inr failed)) (inl is) = inr (inr (failed-first a b c failed q.counted))
