-- Calls of files, one after another, of which at most the last failed.
use Rattle.std.proofs.Common.{◌∙◌, inl, inr, ℕ, List, [], ◌∷◌, sym}
use Rattle.hack_files.specs.Files.{KeepsAll}
use Rattle.hack_files.specs.FailedCalls.{LookFailed, NoneFailed, ReadFailed, WriteFailed}
use Rattle.hack_files.specs.declared.fs.Files.{Ghosts as Filing}

pub none_failed : {F : Type 0} (f : Filing F) (a : F) → NoneFailed f a a
none_failed f a = record { unseen = f.unseen_none a; refused = f.refuses_none a }

pub none_then : {F : Type 0} (f : Filing F) (a b c : F) → NoneFailed f a b → NoneFailed f b c → NoneFailed f a c
none_then f a b c p q = record { unseen = f.unseen_more a b c [] [] p.unseen q.unseen; refused = f.refuses_more a b c [] [] p.refused q.refused }

pub look_then : {F : Type 0} (f : Filing F) (path : List ℕ) (a b c : F) → NoneFailed f a b → LookFailed f path b c → LookFailed f path a c
look_then f path a b c p q = record { unseen = f.unseen_more a b c [] (path ∷ []) p.unseen q.unseen; refused = f.refuses_more a b c [] [] p.refused q.refused }

pub write_then : {F : Type 0} (f : Filing F) (path : List ℕ) (a b c : F) → NoneFailed f a b → WriteFailed f path b c → WriteFailed f path a c
write_then f path a b c p q = record { unseen = f.unseen_more a b c [] [] p.unseen q.unseen; refused = f.refuses_more a b c [] (path ∷ []) p.refused q.refused }

-- calls that changed nothing, and then a read
pub read_then : {F : Type 0} (f : Filing F) (path : List ℕ) (a b c : F) → NoneFailed f a b → (f.tells → KeepsAll (f.bytes_at a) (f.bytes_at b)) → ReadFailed f path b c → ReadFailed f path a c
read_then f path a b c p same (inl look) = inl (look_then f path a b c p look)
read_then f path a b c p same (inr (none, tells, is)) = inr (none_then f a b c p none, tells, sym (same tells path) ∙ is)
