-- Bytes that are gathered after those of a writer.
use Rattle.std.proofs.Common.{◌≡◌, ◌∙◌, ◌++◌, ◌∷◌, ℕ, Bool, List, [], Option, Some, None, false, true, inl, inr, refl, ap, append-nil, append_assoc, subst, sym}
use Rattle.std.specs.Prelude.{MatchBool}
use Rattle.std.specs.Io.KnownBytes.{Appends, Keeps, append_known}
use Rattle.std.proofs.lemmas.List.{append_cancel_left}
use Rattle.hack_base.proofs.WriteLemmas.{Appends-kept}
use Rattle.hack_base.specs.WriteLaws.{NoFewer-trans, failed-later}
use Rattle.hack_base.specs.Streams.{Stream, WritesText}
use Rattle.hack_base.specs.Writes.{AppendsFront, HasFailed, NoFewer}
use Rattle.hack_run.specs.InternalExtensions.{Extends}

-- nothing is gathered
pub known-none : (a : Option (List ℕ)) → append_known a [] ≡ a
known-none None = refl
known-none (Some x) = ap Some (append-nil x)

nothing-left : (front rest : List ℕ) → front ++ rest ≡ [] → front ≡ []
nothing-left [] rest is = refl
nothing-left (b ∷ bs) rest is = absurd (cc)

-- of a front that was written or gathered, what was written is a front, where the output only grew
pub front_written : (a b c : Option (List ℕ)) (left text : List ℕ) → AppendsFront a b text → Keeps b (append_known c left) → Extends a c → AppendsFront a c text
front_written None b c left text w k g = (text, [], sym (append-nil text), tt)
front_written (Some x) None c left text w k g = absurd w.3
front_written (Some x) (Some y) None left text w k g = absurd k
front_written (Some x) (Some y) (Some z) left text w k g =
    let wrote : x ++ (g.0 ++ left) ≡ x ++ w.0 = sym (append_assoc x g.0 left) ∙ ap (λ l. l ++ left) (sym g.1) ∙ k ∙ w.3 in
    let front : g.0 ++ left ≡ w.0 = append_cancel_left x (g.0 ++ left) w.0 wrote in
    (g.0, left ++ w.1, w.2 ∙ ap (λ l. l ++ w.1) (sym front) ∙ append_assoc g.0 left w.1, g.1)

-- nothing was gathered at first, nor written or gathered since
pub wrote_nothing : (a b c : Option (List ℕ)) (begun gathered left : List ℕ) → begun ≡ [] → gathered ≡ begun → Keeps a b → Keeps (append_known b gathered) (append_known c left) → Extends a c → Keeps a c
wrote_nothing None b c begun gathered left empty same first last grown = tt
wrote_nothing (Some x) None c begun gathered left empty same first last grown = absurd first
wrote_nothing (Some x) (Some y) None begun gathered left empty same first last grown = absurd last
wrote_nothing (Some x) (Some y) (Some z) begun gathered left empty same first last grown =
    let all : x ++ (grown.0 ++ left) ≡ x ++ [] = sym (append_assoc x grown.0 left) ∙ ap (λ l. l ++ left) (sym grown.1) ∙ last ∙ ap (λ l. y ++ l) (same ∙ empty) ∙ ap (λ l. l ++ []) first in
    let none : grown.0 ≡ [] = nothing-left grown.0 left (append_cancel_left x (grown.0 ++ left) [] all) in
    grown.1 ∙ ap (λ l. x ++ l) none ∙ append-nil x

-- Where the last write succeeded, all that was gathered was written; else a front of it was, and the writer counted a
-- failure.
pub wrote_gathered : (old mid new : Stream) (begun gathered left : List ℕ) (flushed : Bool) → begun ≡ [] → Keeps (append_known mid.bytes gathered) (append_known new.bytes left) → Extends old.bytes new.bytes
    → (flushed ≡ true → Keeps (append_known mid.bytes gathered) new.bytes) → NoFewer old.failed mid.failed → MatchBool flushed (NoFewer mid.failed new.failed) (HasFailed mid.failed new.failed)
    → (text : List ℕ) → Appends (append_known old.bytes begun) (append_known mid.bytes gathered) text → WritesText text old new
wrote_gathered old mid new begun gathered left flushed empty kept grown all first last text wrote = go flushed all last
  where
    grew : Appends old.bytes (append_known mid.bytes gathered) text
    grew = subst (λ (o : Option (List ℕ)). Appends o (append_known mid.bytes gathered) text) (ap (append_known old.bytes) empty ∙ known-none old.bytes) wrote

    go : (flushed : Bool) → (flushed ≡ true → Keeps (append_known mid.bytes gathered) new.bytes) → MatchBool flushed (NoFewer mid.failed new.failed) (HasFailed mid.failed new.failed) → WritesText text old new
    go true all last = inl (Appends-kept old.bytes (append_known mid.bytes gathered) new.bytes text grew (all refl), NoFewer-trans old.failed mid.failed new.failed first last)
    go false all last = inr (front_written old.bytes (append_known mid.bytes gathered) new.bytes left text (text, [], sym (append-nil text), grew) kept grown, failed-later old.failed mid.failed new.failed first last)
