-- Calls of files, one after another, of which at most the last failed.
use Rattle.std.proofs.Common.{◌≡◌, ◌⊎◌, ◌≤◌, ◌-◌, ◌∙◌, ap, drop, take, inl, inr, ℕ, List, [], ◌∷◌, None, Result, Ok, Err, IfErr, arith, sym, subst, string_bytes, length}
use Rattle.std.specs.Prelude.{IsSome, OnErr, OnOk, Option, slice_index_or}
use Rattle.std.proofs.lemmas.List.{take_all}
use Rattle.std.proofs.lemmas.Bool.{false≢true}
use Rattle.hack_files.specs.declared.fs.Files.{Ghosts as Filing}
use Rattle.hack_files.specs.declared.fs.FsFault.TheVariants as fs
use Rattle.hack_files.specs.FailedCalls.{LookFailed, NoneFailed, WriteFailed}
use Rattle.hack_files.specs.Files.{CountsFailedCall, KeepsOthers, Makes, MakesOrNot, refused_path}
use Rattle.hack_files.proofs.FilesLemmas.{trace_steps}
use Rattle.hack_files.proofs.FailedLemmas.{none_failed, none_then, look_then, write_then}
use Rattle.hack_journal.specs.FailedCalls.{CannotEnd, FailsOnlySo, FailsRefusedAt, FailsRemoval, FailsUnseen, IsOfFailedCall, RemovalFailed}
use Rattle.hack_journal.specs.FileCalls.{ChangesOnly, Puts}
use Rattle.hack_journal.specs.Journal.{Edit}
use Rattle.hack_journal.specs.SafeFiles.{gives}
use Rattle.hack_journal.specs.Recovery.{HasEntry}
use Rattle.hack_journal.specs.Internal.{IsMemoryRefused, IsWriteFault}
use Rattle.hack_journal.specs.Rows.{Noted, file_at}
use Rattle.hack_journal.specs.declared.recover.RecoverFault.{RecoverFault}
use Rattle.hack_journal.specs.declared.recover.RecoverFault.TheVariants.{Memory, NotJournal, Changed, Files}
use Rattle.hack_journal.proofs.CountLemmas.{grows_then}

-- a call that refused at most its path
pub fails_refused : {F T E : Type 0} (f : Filing F) (path : List ℕ) (r : Result T E) (a b : F) → f.unseen a b [] → f.refuses a b (refused_path r path) → FailsRefusedAt f path a b r
fails_refused f path (Ok v) a b unseen refused = record { unseen = unseen; refused = refused }
fails_refused f path (Err e) a b unseen refused = record { unseen = unseen; refused = refused }

-- what a call of files itself says
pub changes_of : {F T E : Type 0} (f : Filing F) (path : List ℕ) (r : Result T E) (a b : F) → f.stays a b → CountsFailedCall (f.failed a) (f.failed b) r → f.refuses a b (refused_path r path) → f.unseen a b [] → (f.tells → KeepsOthers path (f.bytes_at a) (f.bytes_at b)) → ChangesOnly f path a b r
changes_of f path r a b stays counted refused_path unseen_none others = record { stays = stays; counted = counted; refused_path = refused_path; unseen_none = unseen_none; others = others }

-- of a call that changes at most its path, it is known which failed
pub puts_of : {F T E : Type 0} (f : Filing F) (path : List ℕ) (bytes : Option (List ℕ)) (r : Result T E) (a b : F) → ChangesOnly f path a b r → OnOk r (f.tells → f.bytes_at b path ≡ bytes)
    → OnOk r (f.whole → Makes (gives path bytes ∷ []) (f.trace a) (f.trace b) (f.bytes_at a) (f.bytes_at b)) → OnErr r (f.whole → MakesOrNot (gives path bytes) (f.trace a) (f.trace b) (f.bytes_at a) (f.bytes_at b)) → Puts f path bytes a b r
puts_of f path bytes r a b changes put traced refused = record {
  changes = changes;
  calls = fails_refused f path r a b changes.unseen_none changes.refused_path;
  put = put;
  traced = traced;
  refused = refused;
}

pub fault_then : {F : Type 0} (f : Filing F) (P : List ℕ → Type 0) (fault : RecoverFault) (a b c : F) → NoneFailed f a b → IsOfFailedCall f P b c fault → IsOfFailedCall f P a c fault
fault_then f P Memory a b c p (inl none) = inl (none_then f a b c p none)
fault_then f P Memory a b c p (inr (path, at, inl look)) = inr (path, at, inl (look_then f path a b c p look))
fault_then f P Memory a b c p (inr (path, at, inr write)) = inr (path, at, inr (write_then f path a b c p write))
fault_then f P (NotJournal j) a b c p q = none_then f a b c p q
fault_then f P (Changed path j) a b c p q = none_then f a b c p q
fault_then f P (Files (fs.Read path)) a b c p q = (q.0, look_then f (string_bytes path) a b c p q.1)
fault_then f P (Files (fs.Write path)) a b c p q = (q.0, write_then f (string_bytes path) a b c p q.1)
fault_then f P (Files (fs.NotText path)) a b c p q = absurd q
fault_then f P (Files fs.Memory) a b c p q = absurd q

pub ends_then : {F T : Type 0} (f : Filing F) (P : List ℕ → Type 0) (r : Result T RecoverFault) (a b c : F) → NoneFailed f a b → FailsOnlySo f P b c r → FailsOnlySo f P a c r
ends_then f P (Ok v) a b c p q = none_then f a b c p q
ends_then f P (Err fault) a b c p q = fault_then f P fault a b c p q

-- a call that failed at a path of which P holds failed at one of which the wider Q holds
pub fault_wider : {F : Type 0} (f : Filing F) (P Q : List ℕ → Type 0) → ((p : List ℕ) → P p → Q p) → (fault : RecoverFault) (a b : F) → IsOfFailedCall f P a b fault → IsOfFailedCall f Q a b fault
fault_wider f P Q to Memory a b (inl none) = inl none
fault_wider f P Q to Memory a b (inr (path, at, one)) = inr (path, to path at, one)
fault_wider f P Q to (NotJournal j) a b h = h
fault_wider f P Q to (Changed path j) a b h = h
fault_wider f P Q to (Files (fs.Read path)) a b h = (to (string_bytes path) h.0, h.1)
fault_wider f P Q to (Files (fs.Write path)) a b h = (to (string_bytes path) h.0, h.1)
fault_wider f P Q to (Files (fs.NotText path)) a b h = absurd h
fault_wider f P Q to (Files fs.Memory) a b h = absurd h

pub ends_wider : {F T : Type 0} (f : Filing F) (P Q : List ℕ → Type 0) → ((p : List ℕ) → P p → Q p) → (r : Result T RecoverFault) (a b : F) → FailsOnlySo f P a b r → FailsOnlySo f Q a b r
ends_wider f P Q to (Ok v) a b h = h
ends_wider f P Q to (Err fault) a b h = fault_wider f P Q to fault a b h

-- a result that says at most that memory was refused
pub memory_only : {F T : Type 0} (f : Filing F) (P : List ℕ → Type 0) (r : Result T RecoverFault) (a b : F) → IfErr r IsMemoryRefused → NoneFailed f a b → FailsOnlySo f P a b r
memory_only f P (Ok v) a b only p = p
memory_only f P (Err Memory) a b only p = inl p
memory_only f P (Err (NotJournal j)) a b only p = absurd only
memory_only f P (Err (Changed path j)) a b only p = absurd only
memory_only f P (Err (Files fault)) a b only p = absurd only

-- the path of the first of some entries
pub of_first : (e : Edit) (es : List Edit) (p : List ℕ) → HasEntry (e ∷ []) p → HasEntry (e ∷ es) p
of_first e es p (inl is) = inl is
of_first e es p (inr none) = absurd none

pub first_failed : {F : Type 0} (f : Filing F) (e : Edit) (es : List Edit) (fault : RecoverFault) (a b : F) → IsOfFailedCall f (HasEntry (e ∷ [])) a b fault → IsOfFailedCall f (HasEntry (e ∷ es)) a b fault
first_failed f e es = fault_wider f (HasEntry (e ∷ [])) (HasEntry (e ∷ es)) (of_first e es)

-- the first of some entries was seen to, and then the rest
pub rest_ends : {F T : Type 0} (f : Filing F) (e : Edit) (es : List Edit) (r : Result T RecoverFault) (a b c : F) → NoneFailed f a b → FailsOnlySo f (HasEntry es) b c r → FailsOnlySo f (HasEntry (e ∷ es)) a c r
rest_ends f e es r a b c p h = ends_then f (HasEntry (e ∷ es)) r a b c p (ends_wider f (HasEntry es) (HasEntry (e ∷ es)) (λ q has. inr has) r b c h)

-- the first of a list, and the rest
pub rest_is : {X : Type 0} (xs : List X) (x : X) → 1 ≤ length xs → x ≡ slice_index_or xs 0 x → xs ≡ x ∷ take (length xs - 1) (drop 1 xs)
rest_is [] x le is = absurd (omega (arith, le))
rest_is (y ∷ ys) x le is = sym (ap (λ z. z ∷ take (length (y ∷ ys) - 1) ys) is ∙ ap (λ l. y ∷ l) (take_all (length (y ∷ ys) - 1) ys (omega arith)))

-- paths of entries are looked at, and then those of the rest
pub unseen_rest : {F T E : Type 0} (f : Filing F) (e : Edit) (es : List Edit) (r : Result T E) (a b c : F) → NoneFailed f a b → FailsUnseen f (HasEntry es) b c r → FailsUnseen f (HasEntry (e ∷ es)) a c r
unseen_rest f e es (Ok v) a b c p h = none_then f a b c p h
unseen_rest f e es (Err fault) a b c p (path, has, h) = (path, inr has, look_then f path a b c p h)

-- what calls of which at most the last failed are put together by
pub ruleset call_steps = (grows_then, none_failed, none_then, fault_then, ends_then, first_failed, rest_ends, unseen_rest, trace_steps)

-- ---- why a journal can't be ended

pub cannot_look : {F : Type 0} (f : Filing F) (noted : Noted) (a b c : F) → NoneFailed f a b → (path : List ℕ) × HasEntry noted.entries path × LookFailed f path b c → CannotEnd f noted a c
cannot_look f noted a b c p (path, has, h) = inl (path, inr has, look_then f path a b c p h)

pub cannot_remove : {F : Type 0} (f : Filing F) (noted : Noted) (a b c : F) → NoneFailed f a b → RemovalFailed f noted.journal (length noted.entries) b c → CannotEnd f noted a c
cannot_remove f noted a b c p (i, le, h) = inr (i, le, write_then f (file_at noted.journal i) a b c p h)

-- ---- errors

pub write_failed : {F : Type 0} (f : Filing F) (P : List ℕ → Type 0) (path : List ℕ) (fault : RecoverFault) (a b : F) → P path → IsWriteFault path fault → WriteFailed f path a b → IsOfFailedCall f P a b fault
write_failed f P path Memory a b at is h = inr (path, at, inr h)
write_failed f P path (NotJournal j) a b at is h = absurd is
write_failed f P path (Changed p j) a b at is h = absurd is
write_failed f P path (Files (fs.Read p)) a b at is h = absurd is
write_failed f P path (Files (fs.Write p)) a b at is h = subst (λ (q : List ℕ). P q × WriteFailed f q a b) (sym is) (at, h)
write_failed f P path (Files (fs.NotText p)) a b at is h = absurd is
write_failed f P path (Files fs.Memory) a b at is h = absurd is

-- after a look that found something, a read that fails leaves the path unseen
pub unseen_there : {F : Type 0} (f : Filing F) (path : List ℕ) (a b c : F) → (f.tells → IsSome (f.bytes_at b path)) → NoneFailed f a b → f.refuses b c []
    → f.unseen b c (path ∷ []) ⊎ (f.unseen b c [] × f.tells × (f.bytes_at b path ≡ None)) → LookFailed f path a c
unseen_there f path a b c there p again (inl h) = record { unseen = f.unseen_more a b c [] (path ∷ []) p.unseen h; refused = f.refuses_more a b c [] [] p.refused again }
unseen_there f path a b c there p again (inr (h, tells, none)) = absurd (false≢true (subst IsSome none (there tells)))

-- a row is shorter by a file that was removed
pub row_then : {F T E : Type 0} (f : Filing F) (noted less : Noted) (r : Result T E) (a b c : F) → less.journal ≡ noted.journal → length less.entries ≤ length noted.entries → NoneFailed f a b
    → FailsRemoval f less b c r → FailsRemoval f noted a c r
row_then f noted less (Ok v) a b c same le p h = none_then f a b c p h
row_then f noted less (Err e) a b c same le p (i, at, h) = (i, omega (arith, at, le), write_then f (file_at noted.journal i) a b c p (subst (λ (j : List ℕ). WriteFailed f (file_at j i) b c) same h))
