-- How a question goes on, and where it ends.
use Rattle.std.specs.Prelude.{IfOk, IfErr, Result}
use Rattle.std.proofs.Common.{◌≡◌, ◌⊎◌, inl, inr, ℕ, List, Some, None, Ok, Err, refl, sym, true, ◌++◌, ◌∷◌, [], ◌∙◌, ap, subst, arith}
use Rattle.std.specs.Str.{bytes_eq}
use Rattle.std.proofs.lemmas.Slice.Eq.{bytes_eq-Decides}
use Rattle.std.proofs.lemmas.Bool.{cases_Bool, true≢false}
use Rattle.serde_json.specs.Data.{Members}
use Rattle.hack_base.specs.Names.{Name}
use Rattle.hack_files.specs.Files.{Change, Contents, KeepsOthers, Makes, MakesOrNot, Trace, puts}
use Rattle.hack_base.specs.Counters.{GrowsBy}
use Rattle.hack_files.specs.Restore.{Kept, write_of}
use Rattle.hack_files.specs.TraceLaws.{makes_more}
use Rattle.hack_process.specs.Calls.{Asked, Call, MayAdd}
use Rattle.hack_process.specs.CommandTexts.{Command, text_of}
use Rattle.hack_process.specs.Commands.{asked_of}
use Rattle.hack_process.specs.Faults.{IsFault, IsReadFault}
use Rattle.hack_process.specs.declared.fault.ProcessFault.{ProcessFault}
use Rattle.hack_process.specs.declared.fault.ProcessFault.TheVariants as p
use Rattle.hack_metadata.specs.QuestionCalls.{Stage, first, locked, taken, versioned, IsAnswer, IsLockfile, IsNeeded, IsNextCommand, Lacks, PutsBack, StopsQuestion, TellsAs, WroteWhereKnown}
use Rattle.hack_metadata.specs.InternalQuestionCalls.{UsesAnswer, IsTextFault, FailsAs}
use Rattle.hack_metadata.specs.Fields.{object_in_text}
use Rattle.hack_base.specs.FieldReadings.{FieldReading}
use Rattle.hack_metadata.specs.FileFaults.{IsUnread}
use Rattle.hack_metadata.specs.MetadataReading.{read_metadata}
use Rattle.hack_metadata.specs.Requests.{Question}
use Rattle.hack_metadata.specs.FilesAfterAsking.{LeftBy, LeavesFiles, Spoilt, Whole}
use Rattle.hack_metadata.specs.Internal.{FailsOver, IsFileFault, IsNoFileFault, KeepsOneMore, PutsHeld}
use Rattle.hack_metadata.specs.MetadataView.{metadata_view}
use Rattle.hack_metadata.specs.declared.metadata.Metadata.{Metadata}
use Rattle.hack_metadata.specs.declared.ask.fault.AskFault.{AskFault}
use Rattle.hack_metadata.specs.declared.ask.fault.AskFault.TheVariants as fault
use Rattle.hack_metadata.proofs.AskLemmas.{fault-read}

-- ---- why a question ends

-- a text that isn't read as it should be ends the question
pub text-stops : {A : Type 0} (q : Question) (now : List Call) (stage : Stage) (c : Command) (text : Name) (f : Members → FieldReading A) (e : AskFault)
    → IsAnswer q stage c text → ((name : Name) (ms : Members) → object_in_text text ≡ Some ms → f ms ≡ Err name → Lacks stage name)
    → IsTextFault f text (text_of q.verbose q.dir c) e → StopsQuestion q stage now now e
text-stops q now stage c text f fault.Memory is lacks h = inl refl
text-stops q now stage c text f fault.NoHost is lacks h = absurd h
text-stops q now stage c text f (fault.Process e) is lacks h = absurd h
text-stops q now stage c text f (fault.Files e) is lacks h = absurd h
text-stops q now stage c text f (fault.Output told) is lacks h = (refl, (c, text, is, h.0, h.1))
text-stops q now stage c text f (fault.Field name) is lacks h = (refl, lacks name.now h.0 h.1 h.2)

-- an answer that is read, or an error of reading it, is the result
metadata-counts : (q : Question) (now : List Call) (c : Command) (text : Name) (minor : ℕ) (r : Result Metadata AskFault)
    → IfOk r (λ m. TellsAs (read_metadata minor) text (metadata_view m)) → IfErr r (IsTextFault (read_metadata minor) text (text_of q.verbose q.dir c)) → UsesAnswer q c text minor now r
metadata-counts q now c text minor (Ok m) ok err = ok
metadata-counts q now c text minor (Err e) ok err = text-stops q now (taken c text minor) c text (read_metadata minor) e (refl, refl) (λ name ms o f. (ms, o, f)) err

-- the same, where the command and the text are given by equations
pub asked-counts : (q : Question) (now : List Call) (c asked : Command) (text shown : Name) (minor : ℕ) (r : Result Metadata AskFault)
    → asked ≡ c → shown ≡ text → IfOk r (λ m. TellsAs (read_metadata minor) shown (metadata_view m))
    → IfErr r (IsTextFault (read_metadata minor) shown (text_of q.verbose q.dir asked)) → UsesAnswer q c text minor now r
asked-counts q now c asked text shown minor r is same ok err =
    metadata-counts q now c text minor r (subst (λ t. IfOk r (λ m. TellsAs (read_metadata minor) t (metadata_view m))) same ok)
    (subst (λ k. IfErr r (IsTextFault (read_metadata minor) text (text_of q.verbose q.dir k))) is (subst (λ t. IfErr r (IsTextFault (read_metadata minor) t (text_of q.verbose q.dir asked))) same err))

-- the error of a read, where the caller says which calls were made
told-fault : (tells : Type 0) (asked : Asked) (shown : Name) (old new : List Call) (e : ProcessFault) → tells → IsReadFault tells asked shown old new e → IsReadFault (Unit {0}) asked shown old new e
told-fault tells asked shown old new p.Memory t h = (h.0, λ _. h.1 t)
told-fault tells asked shown old new p.EmptyProgram t h = (h.0, λ _. h.1 t)
told-fault tells asked shown old new (p.NeverExecuted text) t h = (h.0, h.1, λ _. h.2 t)
told-fault tells asked shown old new (p.Failed failure) t h = (h.0, h.1, h.2, λ _. h.3 t)
told-fault tells asked shown old new (p.NotText text) t h = (h.0, h.1, λ _. h.2 t)

-- the next command fails, and ends the question
pub command-stops : (tells : Type 0) (q : Question) (mid new : List Call) (stage : Stage) (c : Command) (e : AskFault)
    → tells → IsNeeded stage → IsNextCommand q stage c
    → FailsAs (tells → MayAdd (asked_of true c) mid new) (IsReadFault tells (asked_of true c) (text_of true q.dir c) mid new) e → StopsQuestion q stage mid new e
command-stops tells q mid new stage c fault.Memory t needed next h = inr (c, next, h t)
command-stops tells q mid new stage c fault.NoHost t needed next h = absurd h
command-stops tells q mid new stage c (fault.Process e) t needed next h = (needed, (c, next, told-fault tells (asked_of true c) (text_of true q.dir c) mid new e t h))
command-stops tells q mid new stage c (fault.Files e) t needed next h = absurd h
command-stops tells q mid new stage c (fault.Output text) t needed next h = absurd h
command-stops tells q mid new stage c (fault.Field name) t needed next h = absurd h

-- an error of running a command is also one of reading its output
pub run-fails : (M tells : Type 0) (asked : Asked) (shown : Name) (old new : List Call) (e : AskFault) → FailsAs M (IsFault tells asked shown old new) e → FailsAs M (IsReadFault tells asked shown old new) e
run-fails M tells asked shown old new fault.Memory h = h
run-fails M tells asked shown old new fault.NoHost h = h
run-fails M tells asked shown old new (fault.Process e) h = fault-read tells asked shown old new e h
run-fails M tells asked shown old new (fault.Files e) h = h
run-fails M tells asked shown old new (fault.Output text) h = h
run-fails M tells asked shown old new (fault.Field name) h = h

-- a question that can't be made
pub question-stops : (q : Question) (now : List Call) (minor : ℕ) (e : AskFault) → (e ≡ fault.Memory) ⊎ ((e ≡ fault.NoHost) × (q.full ≡ None)) → StopsQuestion q (versioned minor) now now e
question-stops q now minor e (inl is) = subst (λ x. StopsQuestion q (versioned minor) now now x) (sym is) (inl refl)
question-stops q now minor e (inr h) = subst (λ x. StopsQuestion q (versioned minor) now now x) (sym h.0) (minor, refl, refl, h.1)

-- ---- errors of the lockfile

pub unread-over : (path : Name) (still done : Type 0) (e : AskFault) → still → done → IsFileFault (IsUnread path) e → FailsOver path still done e
unread-over path still done fault.Memory s d h = d
unread-over path still done (fault.Files f) s d h = inl (s, h)
unread-over path still done fault.NoHost s d h = absurd h
unread-over path still done (fault.Process p) s d h = absurd h
unread-over path still done (fault.Output text) s d h = absurd h
unread-over path still done (fault.Field name) s d h = absurd h

-- the lockfile can't be looked for
pub there-stops : (q : Question) (now : List Call) (minor : ℕ) (text path : Name) (e : AskFault) → IsLockfile text path → IsFileFault (IsUnread path) e → StopsQuestion q (first minor text) now now e
there-stops q now minor text path fault.Memory lock h = inl refl
there-stops q now minor text path (fault.Files f) lock h = (minor, text, path, lock, inl (refl, h, inl refl))
there-stops q now minor text path fault.NoHost lock h = absurd h
there-stops q now minor text path (fault.Process p) lock h = absurd h
there-stops q now minor text path (fault.Output shown) lock h = absurd h
there-stops q now minor text path (fault.Field name) lock h = absurd h

-- it can't be kept, or not be put back
pub over-stops : (tells : Type 0) (q : Question) (mid new : List Call) (minor : ℕ) (text path : Name) (c : Command) (e : AskFault) → tells → IsLockfile text path → IsNextCommand q (locked minor text) c
    → FailsOver path (tells → new ≡ mid) (tells → MayAdd (asked_of true c) mid new) e → StopsQuestion q (locked minor text) mid new e
over-stops tells q mid new minor text path c fault.Memory t lock next h = inr (c, next, h t)
over-stops tells q mid new minor text path c (fault.Files f) t lock next (inl h) = (minor, text, path, lock, inl (h.0 t, h.1, inr refl))
over-stops tells q mid new minor text path c (fault.Files f) t lock next (inr h) = (minor, text, path, lock, inr (inr (c, next, h.0 t), h.1, refl))
over-stops tells q mid new minor text path c fault.NoHost t lock next h = absurd h
over-stops tells q mid new minor text path c (fault.Process p) t lock next h = absurd h
over-stops tells q mid new minor text path c (fault.Output shown) t lock next h = absurd h
over-stops tells q mid new minor text path c (fault.Field name) t lock next h = absurd h

-- ---- what the files hold after a question

-- counts that don't grow
still : (x y z : ℕ) → GrowsBy 0 x y → GrowsBy 0 y z → GrowsBy 0 x z
still x y z f g = λ low. let first = f low in let second = g (omega (arith, first)) in omega (arith, first, second)

-- nothing was done to the files, twice
pub whole-more : (tells : Type 0) (a b c : Contents) (x y z : ℕ) → Whole tells a b x y → Whole tells b c y z → Whole tells a c x z
whole-more tells a b c x y z f g = (still x y z f.0 g.0, λ t q. g.1 t q ∙ f.1 t q)

-- nothing was done to the files, and then an error left one path spoilt
spoilt-more : (path : Name) (tells : Type 0) (a b c : Contents) (x y z : ℕ) → Whole tells a b x y → Spoilt path tells b c y z → Spoilt path tells a c x z
spoilt-more path tells a b c x y z f g = ((λ low. let first = f.0 low in let second = g.0 (omega (arith, first)) in omega (arith, first, second)), λ t q ne. g.1 t q ne ∙ f.1 t q)

-- what was kept is written back
pub restored : (path : Name) (tells : Type 0) (a b c : Contents) (x y z : ℕ) (old mid : List Kept) → Whole tells a b x y → KeepsOneMore path tells a old mid
    → ((file : Kept) (earlier : List Kept) → mid ≡ earlier ++ file ∷ [] → GrowsBy 0 y z × (tells → KeepsOthers file.path b c × (c file.path ≡ Some file.bytes)))
    → Whole tells a c x z
restored path tells a b c x y z old mid whole keeps back =
    let file : Kept = record { path = path; bytes = keeps.0 } in
    let did = back file old keeps.1 in (
      still x y z whole.0 did.0,
      λ t q. elim (cases_Bool (bytes_eq path q)) [
        | inl e ↦ let is : path ≡ q = (bytes_eq-Decides path q).0 e in
            ap c (sym is) ∙ (did.1 t).1 ∙ sym (keeps.2 t) ∙ ap a is
        | inr f ↦ (did.1 t).0 q (λ is. true≢false (sym ((bytes_eq-Decides path q).1 (sym is)) ∙ f)) ∙ whole.1 t q
      ],
    )

pub unchanged : (tells : Type 0) (a : Contents) (x : ℕ) → Whole tells a a x x
unchanged tells a x = (λ low. omega (arith, low), λ t q. refl)

-- an error that is not one of the files leaves each path as it was
pub whole-left : (path : Name) (tells : Type 0) (a b : Contents) (x y : ℕ) (e : AskFault) → IsNoFileFault e → Whole tells a b x y → LeftBy path tells a b x y e
whole-left path tells a b x y fault.Memory spares h = inl h
whole-left path tells a b x y fault.NoHost spares h = h
whole-left path tells a b x y (fault.Process e) spares h = h
whole-left path tells a b x y (fault.Files e) spares h = absurd spares
whole-left path tells a b x y (fault.Output text) spares h = h
whole-left path tells a b x y (fault.Field name) spares h = h

-- a result without an error of the files leaves each path as it was
pub whole-leaves : {X : Type 0} (path : Name) (tells : Type 0) (a b : Contents) (x y : ℕ) (r : Result X AskFault) → IfErr r IsNoFileFault → Whole tells a b x y → LeavesFiles path tells a b x y r
whole-leaves path tells a b x y (Ok v) spares h = h
whole-leaves path tells a b x y (Err e) spares h = whole-left path tells a b x y e spares h

-- an error of reading a text is not one of the files
pub text-spares : {A : Type 0} (f : Members → FieldReading A) (text shown : Name) (e : AskFault) → IsTextFault f text shown e → IsNoFileFault e
text-spares f text shown fault.Memory h = tt
text-spares f text shown fault.NoHost h = tt
text-spares f text shown (fault.Process e) h = tt
text-spares f text shown (fault.Files e) h = h
text-spares f text shown (fault.Output told) h = tt
text-spares f text shown (fault.Field name) h = tt

-- an error after calls that changed nothing
pub left-more : (path : Name) (tells : Type 0) (a b c : Contents) (x y z : ℕ) (e : AskFault) → Whole tells a b x y → LeftBy path tells b c y z e → LeftBy path tells a c x z e
left-more path tells a b c x y z fault.Memory f (inl g) = inl (whole-more tells a b c x y z f g)
left-more path tells a b c x y z fault.Memory f (inr g) = inr (spoilt-more path tells a b c x y z f g)
left-more path tells a b c x y z (fault.Files e) f g = spoilt-more path tells a b c x y z f g
left-more path tells a b c x y z fault.NoHost f g = whole-more tells a b c x y z f g
left-more path tells a b c x y z (fault.Process e) f g = whole-more tells a b c x y z f g
left-more path tells a b c x y z (fault.Output text) f g = whole-more tells a b c x y z f g
left-more path tells a b c x y z (fault.Field name) f g = whole-more tells a b c x y z f g

-- ---- what is written

module _ (tells whole : Type 0) (a b c : Contents) (s t u : Trace) (x y : ℕ) (path text : Name) (before : Whole tells a b x y) (lock : IsLockfile text path) (none : whole → Makes [] s t a b) where
  -- the bytes at the path now are those that it held before
  puts-back : (bytes : List ℕ) → (tells → b path ≡ Some bytes) → PutsBack tells a text (puts path bytes)
  puts-back bytes kept = record { path = path; bytes = bytes; lockfile = lock; kept = λ told. sym (before.1 told path) ∙ kept told; is = refl }

  -- the lockfile was put back
  pub back-wrote : PutsHeld tells b path (λ put. whole → Makes (put ∷ []) t u b c) → (put : Change) × PutsBack tells a text put × (whole → Makes (put ∷ []) s u a c)
  back-wrote h = (puts path h.0, puts-back h.0 h.1, λ w. makes_more [] (puts path h.0 ∷ []) s t u a b c (none w) (h.2 w))

  -- an error ended it: nothing was written, or the lockfile was put back
  pub over-wrote : (minor : ℕ) → (whole → Makes [] t u b c ⊎ PutsHeld tells b path (λ put. Makes (put ∷ []) t u b c)) → WroteWhereKnown whole tells s u a c (locked minor text) []
  over-wrote minor h = λ w. elim (h w) [
    | inl m ↦ inl (makes_more [] [] s t u a b c (none w) m)
    | inr p ↦ inr (puts path p.0, puts-back p.0 p.1, makes_more [] (puts path p.0 ∷ []) s t u a b c (none w) p.2)
  ]

-- the lockfile is kept, a command is asked, and it is put back
module _ (tells whole : Type 0) (path : Name) (a b c : Contents) (s t u : Trace) (old mid : List Kept) (keeps : KeepsOneMore path tells a old mid) (none : whole → Makes [] s t a b) where
  pub held-back : ((file : Kept) (earlier : List Kept) → mid ≡ earlier ++ file ∷ [] → whole → Makes (write_of file ∷ []) t u b c) → PutsHeld tells a path (λ put. whole → Makes (put ∷ []) s u a c)
  held-back back = (keeps.0, keeps.2, λ w. makes_more [] (puts path keeps.0 ∷ []) s t u a b c (none w) (back (record { path = path; bytes = keeps.0 }) old keeps.1 w))

  -- or that may have been refused
  pub held-or-not : ((file : Kept) (earlier : List Kept) → mid ≡ earlier ++ file ∷ [] → whole → MakesOrNot (write_of file) t u b c) → whole → Makes [] s u a c ⊎ PutsHeld tells a path (λ put. Makes (put ∷ []) s u a c)
  held-or-not back w = elim (back (record { path = path; bytes = keeps.0 }) old keeps.1 w) [
    | inl left ↦ inl (makes_more [] [] s t u a b c (none w) left)
    | inr made ↦ inr (keeps.0, keeps.2, makes_more [] (puts path keeps.0 ∷ []) s t u a b c (none w) made)
  ]
