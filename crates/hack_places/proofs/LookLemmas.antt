-- Looks at files, one after another.
use Rattle.std.proofs.Common.{◌≡◌, ◌∙◌, ◌||◌, [], ◌∷◌, inl, inr, ℕ, Bool, ap, subst, sym, Result, Ok, Err, string_bytes}
use Rattle.std.specs.Prelude.{List, is_some}
use Rattle.std.proofs.Math.Path.{fun_ext}
use Rattle.hack_files.proofs.FilesLemmas.{trace_steps}
use Rattle.hack_files.specs.Files.{Contents, KeepsAll}
use Rattle.hack_files.specs.declared.fs.Files.{Ghosts as Filing}
use Rattle.hack_files.specs.FailedCalls.{LookFailed, NoneFailed}
use Rattle.hack_places.specs.CallPlaces.{PlacesAt, is_left}
use Rattle.hack_places.specs.FileLooks.{AreLooksSeen, IsOfPath, IsOfUnseen}
use Rattle.hack_places.specs.declared.look.LookFault.{LookFault}
use Rattle.hack_places.specs.declared.look.LookFault.TheVariants.{Memory, Device}
use Rattle.hack_places.proofs.CountLemmas.{grows_then}

-- where each path holds the same, the contents are one function
pub all_same : (m n : Contents) → KeepsAll m n → n ≡ m
all_same m n h = fun_ext h

-- three looks at what an interrupted call may have left
pub left_is : (T : Type 0) (first mid late : Contents) (places : PlacesAt) (a b c any : Bool) → any ≡ (a || b || c) → (T → a ≡ is_some (first places.journal)) → (T → KeepsAll first mid)
    → (T → b ≡ is_some (mid places.older)) → (T → KeepsAll mid late) → (T → c ≡ is_some (late places.copy)) → T → any ≡ is_left first places
left_is T first mid late places a b c any is one same two later three t =
    is ∙ ap (λ k. k || b || c) (one t) ∙ ap (λ k. is_some (first places.journal) || k || c) (two t ∙ ap is_some (same t places.older))
    ∙ ap (λ k. is_some (first places.journal) || is_some (first places.older) || k) (three t ∙ ap is_some (later t places.copy ∙ same t places.copy))

-- what is seen after looks is what was there at first
pub seen_first : (T : Type 0) (P : Contents → Type 0) (first mid : Contents) → (T → KeepsAll first mid) → (T → P mid) → T → P first
seen_first T P first mid same seen t = subst P (all_same first mid (same t)) (seen t)

-- ---- which looks failed

pub seen_none : {F : Type 0} (f : Filing F) (a : F) → NoneFailed f a a
seen_none f a = record { unseen = f.unseen_none a; refused = f.refuses_none a }

pub seen_more : {F : Type 0} (f : Filing F) (a b c : F) → NoneFailed f a b → NoneFailed f b c → NoneFailed f a c
seen_more f a b c p q = record { unseen = f.unseen_more a b c [] [] p.unseen q.unseen; refused = f.refuses_more a b c [] [] p.refused q.refused }

failed_more : {F : Type 0} (f : Filing F) (path : List ℕ) (a b c : F) → NoneFailed f a b → LookFailed f path b c → LookFailed f path a c
failed_more f path a b c p q = record { unseen = f.unseen_more a b c [] (path ∷ []) p.unseen q.unseen; refused = f.refuses_more a b c [] [] p.refused q.refused }

pub fault_then : {F : Type 0} (f : Filing F) (fault : LookFault) (a b c : F) → NoneFailed f a b → IsOfUnseen f b c fault → IsOfUnseen f a c fault
fault_then f Memory a b c p (inl none) = inl (seen_more f a b c p none)
fault_then f Memory a b c p (inr (path, h)) = inr (path, failed_more f path a b c p h)
fault_then f (Device path) a b c p h = failed_more f (string_bytes path) a b c p h

pub seen_then : {F T : Type 0} (f : Filing F) (r : Result T LookFault) (a b c : F) → NoneFailed f a b → AreLooksSeen f b c r → AreLooksSeen f a c r
seen_then f (Ok found) a b c p h = seen_more f a b c p h
seen_then f (Err fault) a b c p h = fault_then f fault a b c p h

-- what looks of which at most the last failed are put together by
pub ruleset look_steps = (grows_then, seen_more, fault_then, seen_then, trace_steps)

-- the error of a look that failed
pub fault_of : {F : Type 0} (f : Filing F) (path : List ℕ) (fault : LookFault) (a b : F) → IsOfPath path fault → LookFailed f path a b → IsOfUnseen f a b fault
fault_of f path Memory a b is h = inr (path, h)
fault_of f path (Device named) a b is h = subst (λ (q : List ℕ). LookFailed f q a b) (sym is) h
