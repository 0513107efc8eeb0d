-- Why an edit is refused, one step after another.
use Rattle.std.proofs.Common.{◌≡◌, ◌+◌, inl, inr, subst, sym, ℕ, List, [], ◌∷◌, Result, Ok, Err, false, length}
use Rattle.std.specs.Prelude.{IsSome}
use Rattle.hack_files.specs.Files.{KeepsAll}
use Rattle.hack_files.specs.declared.fs.FileFault.{FileFault}
use Rattle.hack_files.specs.declared.fs.FileFault.TheVariants.{Memory, Device}
use Rattle.hack_files.specs.declared.fs.Files.{Ghosts as Filing}
use Rattle.hack_files.specs.FailedCalls.{NoneFailed, WriteFailed}
use Rattle.hack_journal.specs.FailedCalls.{FailsRefusedAt}
use Rattle.hack_journal.specs.Internal.{RefusesNextAtMost}
use Rattle.hack_journal.specs.Keeping.{CannotAppend, CannotLookAhead, FailsOf, IsOfCause, RefusesOthers}
use Rattle.hack_journal.specs.Rows.{Noted, file_at, is_of_journal}
use Rattle.hack_base.proofs.Members.{Contains-cons_cases, Contains-nil}
use Rattle.hack_files.proofs.FailedLemmas.{look_then, none_then, write_then}
use Rattle.hack_journal.proofs.RowLemmas.{apart_from}

-- a cause of a wider kind
pub cause_wider : (P Q : Type 0) (fault : FileFault) → (P → Q) → IsOfCause P fault → IsOfCause Q fault
cause_wider P Q Memory to h = tt
cause_wider P Q Device to h = to h

-- whatever the error is, there is a cause
pub of_cause : (P : Type 0) (fault : FileFault) → P → IsOfCause P fault
of_cause P Memory p = tt
of_cause P Device p = p

-- after calls none of which failed
pub fails_then : {F T : Type 0} (f : Filing F) (P Q : Type 0) (r : Result T FileFault) (a b c : F) → NoneFailed f a b → (P → Q) → FailsOf f P b c r → FailsOf f Q a c r
fails_then f P Q (Ok v) a b c none to h = none_then f a b c none h
fails_then f P Q (Err fault) a b c none to h = cause_wider P Q fault to h

pub fails_write : {F T : Type 0} (f : Filing F) (path : List ℕ) (r : Result T FileFault) (a b : F) → FailsRefusedAt f path a b r → FailsOf f (WriteFailed f path a b) a b r
fails_write f path (Ok v) a b h = h
fails_write f path (Err fault) a b h = of_cause (WriteFailed f path a b) fault h

-- why the row gets no file, told from before calls that only looked
pub ahead_then : {F : Type 0} (f : Filing F) (noted : Noted) (a b c : F) → NoneFailed f a b → (f.tells → KeepsAll (f.bytes_at a) (f.bytes_at b)) → CannotLookAhead f noted b c → CannotLookAhead f noted a c
ahead_then f noted a b c none same (inl look) = inl (look_then f (file_at noted.journal (length noted.entries + 1)) a b c none look)
ahead_then f noted a b c none same (inr there) = inr (λ t. subst IsSome (same t (file_at noted.journal (length noted.entries + 1))) (there t))

pub append_then : {F : Type 0} (f : Filing F) (folder : List ℕ) (noted : Noted) (path : List ℕ) (a b c : F) → NoneFailed f a b → (f.tells → KeepsAll (f.bytes_at a) (f.bytes_at b)) → CannotAppend f folder noted path b c → CannotAppend f folder noted path a c
append_then f folder noted path a b c none same (inl way) = inl way
append_then f folder noted path a b c none same (inr (inl ahead)) = inr (inl (ahead_then f noted a b c none same ahead))
append_then f folder noted path a b c none same (inr (inr refused)) = inr (inr (write_then f (file_at noted.journal (length noted.entries)) a b c none refused))

-- ---- refused paths

-- after calls that refused none
pub next_then : {F : Type 0} (f : Filing F) (noted : Noted) (a b c : F) → f.refuses a b [] → RefusesNextAtMost f noted b c → RefusesNextAtMost f noted a c
next_then f noted a b c none (inl h) = inl (f.refuses_more a b c [] [] none h)
next_then f noted a b c none (inr h) = inr (f.refuses_more a b c [] (file_at noted.journal (length noted.entries) ∷ []) none h)

-- a path that isn't set aside for the journal isn't that of the row's next file
pub refuses_others : {F : Type 0} (f : Filing F) (noted : Noted) (path : List ℕ) (a b : F) → is_of_journal noted.journal path ≡ false → RefusesNextAtMost f noted a b → RefusesOthers f path a b
refuses_others f noted path a b out (inl h) = ([], h, Contains-nil path)
refuses_others f noted path a b out (inr h) =
    let next = file_at noted.journal (length noted.entries) in (
      next ∷ [],
      h,
      λ has. elim (Contains-cons_cases next [] path has) [
        | inl is ↦ apart_from noted.journal (length noted.entries) path out (sym is)
        | inr none ↦ Contains-nil path none
      ],
    )
