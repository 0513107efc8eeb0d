-- Which calls of files failed, and what became of the lockfile.
use Rattle.std.specs.Prelude.{IfErr, Result}
use Rattle.std.proofs.Common.{◌≡◌, ◌⊎◌, ◌∙◌, inl, inr, ℕ, List, [], ◌∷◌, Some, Ok, Err, sym, subst}
use Rattle.hack_base.specs.Names.{Name}
use Rattle.hack_files.specs.Files.{Change, KeepsAll, Makes, puts}
use Rattle.hack_files.specs.FailedCalls.{LookFailed, NoneFailed, WriteFailed}
use Rattle.hack_files.specs.declared.fs.Files.{Ghosts as Filing}
use Rattle.hack_files.specs.declared.fs.FsFault.TheVariants as fs
use Rattle.hack_files.proofs.FailedLemmas.{look_then, none_failed, none_then, read_then, write_then}
use Rattle.hack_files.specs.TraceLaws.{makes_more}
use Rattle.hack_process.specs.Calls.{Call}
use Rattle.hack_process.specs.CommandTexts.{Command}
use Rattle.hack_process.specs.Commands.{plain_command}
use Rattle.hack_process.specs.declared.fault.ProcessFault.{ProcessFault}
use Rattle.hack_metadata.specs.FailedQuestions.{EndsQuestion, FailsFirstLook, FailsOnlyAt, IsOfLook, IsOfCallAt, IsPutBack}
use Rattle.hack_metadata.specs.FileFaults.{IsUnread, IsUnwritten}
use Rattle.hack_metadata.specs.Internal.{IsFileFault, IsNoFileFault}
use Rattle.hack_metadata.specs.InternalQuestionCalls.{AsksCargo, FailsAs, FailsFirst, FallsBack, UsesAnswer}
use Rattle.hack_metadata.specs.QuestionCalls.{FailsToRead, IsLockfile, LeadsToStage, PutsBack, StopsQuestion, answers, asks_again, first, first_counts, locked, missing, newer, taken, tells_older, to_cargo}
use Rattle.hack_metadata.specs.Requests.{Question, by_stable, first_command}
use Rattle.hack_metadata.specs.declared.metadata.Metadata.{Metadata}
use Rattle.hack_metadata.specs.declared.ask.fault.AskFault.{AskFault}
use Rattle.hack_metadata.specs.declared.ask.fault.AskFault.TheVariants as fault

module _ {F : Type 0} (f : Filing F) where
  -- ---- one call

  -- a look that failed
  pub look-of : (path : Name) (a b : F) (e : AskFault) → IsFileFault (IsUnread path) e → LookFailed f path a b → IsOfLook f path a b e
  look-of path a b fault.Memory is h = inr h
  look-of path a b (fault.Files (fs.Read p)) is h = (is, h)
  look-of path a b (fault.Files (fs.Write p)) is h = absurd is
  look-of path a b (fault.Files (fs.NotText p)) is h = absurd is
  look-of path a b (fault.Files fs.Memory) is h = absurd is
  look-of path a b fault.NoHost is h = absurd is
  look-of path a b (fault.Process p) is h = absurd is
  look-of path a b (fault.Output text) is h = absurd is
  look-of path a b (fault.Field name) is h = absurd is

  -- a write that was refused
  pub write-of : (path : Name) (a b : F) (e : AskFault) → IsFileFault (IsUnwritten path) e → WriteFailed f path a b → IsOfCallAt f path a b e
  write-of path a b fault.Memory is h = inr (inr h)
  write-of path a b (fault.Files (fs.Read p)) is h = absurd is
  write-of path a b (fault.Files (fs.Write p)) is h = (is, h)
  write-of path a b (fault.Files (fs.NotText p)) is h = absurd is
  write-of path a b (fault.Files fs.Memory) is h = absurd is
  write-of path a b fault.NoHost is h = absurd is
  write-of path a b (fault.Process p) is h = absurd is
  write-of path a b (fault.Output text) is h = absurd is
  write-of path a b (fault.Field name) is h = absurd is

  -- an error of a command is of no file
  pub run-looks : (M : Type 0) (P : ProcessFault → Type 0) (path : Name) (a b : F) (e : AskFault) → FailsAs M P e → NoneFailed f a b → IsOfLook f path a b e
  run-looks M P path a b fault.Memory is h = inl h
  run-looks M P path a b (fault.Process p) is h = h
  run-looks M P path a b (fault.Files e) is h = absurd is
  run-looks M P path a b fault.NoHost is h = absurd is
  run-looks M P path a b (fault.Output text) is h = absurd is
  run-looks M P path a b (fault.Field name) is h = absurd is

  -- an error that is of no file, where no call failed
  none-path : (path : Name) (a b : F) (e : AskFault) → IsNoFileFault e → NoneFailed f a b → IsOfCallAt f path a b e
  none-path path a b fault.Memory spares h = inl h
  none-path path a b fault.NoHost spares h = h
  none-path path a b (fault.Process p) spares h = h
  none-path path a b (fault.Files e) spares h = absurd spares
  none-path path a b (fault.Output text) spares h = h
  none-path path a b (fault.Field name) spares h = h

  pub none-only : {X : Type 0} (path : Name) (a b : F) (r : Result X AskFault) → IfErr r IsNoFileFault → NoneFailed f a b → FailsOnlyAt f path a b r
  none-only path a b (Ok x) spares h = h
  none-only path a b (Err e) spares h = none-path path a b e spares h

  -- a question that can't be made
  pub question-none : {X : Type 0} (path : Name) (a : F) (e : AskFault) → (e ≡ fault.Memory) ⊎ ((e ≡ fault.NoHost) × X) → IsOfCallAt f path a a e
  question-none path a e (inl is) = subst (IsOfCallAt f path a a) (sym is) (inl (none_failed f a))
  question-none path a e (inr h) = subst (IsOfCallAt f path a a) (sym h.0) (none_failed f a)

  pub look-path : (path : Name) (a b : F) (e : AskFault) → IsOfLook f path a b e → IsOfCallAt f path a b e
  look-path path a b fault.Memory (inl h) = inl h
  look-path path a b fault.Memory (inr h) = inr (inl h)
  look-path path a b (fault.Files (fs.Read p)) h = (h.0, inl h.1)
  look-path path a b (fault.Files (fs.Write p)) h = absurd h
  look-path path a b (fault.Files (fs.NotText p)) h = absurd h
  look-path path a b (fault.Files fs.Memory) h = absurd h
  look-path path a b fault.NoHost h = h
  look-path path a b (fault.Process p) h = h
  look-path path a b (fault.Output text) h = h
  look-path path a b (fault.Field name) h = h

  -- ---- calls that changed nothing, and then others

  pub path-then : (path : Name) (a b c : F) (e : AskFault) → NoneFailed f a b → (f.tells → KeepsAll (f.bytes_at a) (f.bytes_at b)) → IsOfCallAt f path b c e → IsOfCallAt f path a c e
  path-then path a b c fault.Memory p same (inl h) = inl (none_then f a b c p h)
  path-then path a b c fault.Memory p same (inr (inl h)) = inr (inl (look_then f path a b c p h))
  path-then path a b c fault.Memory p same (inr (inr h)) = inr (inr (write_then f path a b c p h))
  path-then path a b c (fault.Files (fs.Read q)) p same h = (h.0, read_then f path a b c p same h.1)
  path-then path a b c (fault.Files (fs.Write q)) p same h = (h.0, write_then f path a b c p h.1)
  path-then path a b c (fault.Files (fs.NotText q)) p same h = absurd h
  path-then path a b c (fault.Files fs.Memory) p same h = absurd h
  path-then path a b c fault.NoHost p same h = none_then f a b c p h
  path-then path a b c (fault.Process q) p same h = none_then f a b c p h
  path-then path a b c (fault.Output text) p same h = none_then f a b c p h
  path-then path a b c (fault.Field name) p same h = none_then f a b c p h

  pub put-then : (path : Name) (still now : Type 0) (a b c : F) → (still → now) → NoneFailed f a b → (f.tells → KeepsAll (f.bytes_at a) (f.bytes_at b)) → (f.whole → Makes [] (f.trace a) (f.trace b) (f.bytes_at a) (f.bytes_at b))
      → IsPutBack f path still b c → IsPutBack f path now a c
  put-then path still now a b c to p same none (inl h) = inl (to h.0, λ w. makes_more [] [] _ _ _ _ _ _ (none w) (h.1 w))
  put-then path still now a b c to p same none (inr (inl h)) = inr (inl (write_then f path a b c p h))
  put-then path still now a b c to p same none (inr (inr h)) =
      inr (inr (none_then f a b c p h.0, (h.1.0, (λ t. sym (same t path) ∙ h.1.1 t), λ w. makes_more [] (puts path h.1.0 ∷ []) _ _ _ _ _ _ (none w) (h.1.2 w))))

  -- ---- where a question ends

  pub look-first : (text path : Name) (a b : F) (e : AskFault) → IsLockfile text path → IsOfLook f path a b e → FailsFirstLook f text a b e
  look-first text path a b fault.Memory lock (inl h) = inl h
  look-first text path a b fault.Memory lock (inr h) = inr (path, lock, h)
  look-first text path a b (fault.Files e) lock h = (path, lock, h)
  look-first text path a b fault.NoHost lock h = h
  look-first text path a b (fault.Process p) lock h = h
  look-first text path a b (fault.Output shown) lock h = h
  look-first text path a b (fault.Field name) lock h = h

  none-first : (text : Name) (a b : F) (e : AskFault) → IsNoFileFault e → NoneFailed f a b → FailsFirstLook f text a b e
  none-first text a b fault.Memory spares h = inl h
  none-first text a b fault.NoHost spares h = h
  none-first text a b (fault.Process p) spares h = h
  none-first text a b (fault.Files e) spares h = absurd spares
  none-first text a b (fault.Output shown) spares h = h
  none-first text a b (fault.Field name) spares h = h

  module _ (q : Question) (a b : F) (start new : List Call) (none : NoneFailed f a b) where
    -- the first request to cargo failed
    pub first-ends : (mid : List Call) (minor : ℕ) (e : AskFault) → LeadsToStage f.tells q (f.bytes_at a) start (newer minor) mid [] → (f.whole → Makes [] (f.trace a) (f.trace b) (f.bytes_at a) (f.bytes_at b)) → FailsFirst q minor mid new e → IsNoFileFault e → EndsQuestion f a b q start new (Err e)
    first-ends mid minor e way wrote (inl h) spares = (newer minor, mid, [], way, h, wrote, none)
    first-ends mid minor e way wrote (inr h) spares = (first minor h.0, new, [], answers h.0 way h.1, h.2, wrote, none-first h.0 a b e spares none)

    -- the lockfile is missing, and can't be made
    pub missing-ends : (mid : List Call) (minor : ℕ) (text : Name) (e : AskFault) → LeadsToStage f.tells q (f.bytes_at a) start (missing minor text) mid [] → (f.whole → Makes [] (f.trace a) (f.trace b) (f.bytes_at a) (f.bytes_at b)) → StopsQuestion q (missing minor text) mid new e → EndsQuestion f a b q start new (Err e)
    missing-ends mid minor text e way wrote h = (missing minor text, mid, [], way, h, wrote, none)

    -- an answer is used
    pub counts-ends : (c : Command) (text : Name) (minor : ℕ) (made : List Change) (r : Result Metadata AskFault) → LeadsToStage f.tells q (f.bytes_at a) start (taken c text minor) new made → (f.whole → Makes made (f.trace a) (f.trace b) (f.bytes_at a) (f.bytes_at b)) → UsesAnswer q c text minor new r → EndsQuestion f a b q start new r
    counts-ends c text minor made (Ok m) way wrote h = ((c, text, minor, made, way, wrote, h), none)
    counts-ends c text minor made (Err e) way wrote h = (taken c text minor, new, made, way, h, wrote, none)

    -- the full request was made to cargo
    pub cargo-ends : (mid : List Call) (made : List Change) (r : Result Metadata AskFault) → LeadsToStage f.tells q (f.bytes_at a) start to_cargo mid made → (f.whole → Makes made (f.trace a) (f.trace b) (f.bytes_at a) (f.bytes_at b)) → AsksCargo q mid new r → EndsQuestion f a b q start new r
    cargo-ends mid made r way wrote (inl h) = subst (EndsQuestion f a b q start new) (sym h.1) (to_cargo, mid, made, way, h.2, wrote, none)
    cargo-ends mid made r way wrote (inr h) = counts-ends (plain_command q.cargo [] h.0) h.1 q.cargo_version made r (tells_older h.0 h.1 h.2 way h.3) wrote h.4

    -- stable's cargo failed
    pub fallen-ends : (mid old : List Call) (minor : ℕ) (text : Name) (words : List Name) (r : Result Metadata AskFault) → q.full ≡ Some words → LeadsToStage f.tells q (f.bytes_at a) start (locked minor text) mid [] → FailsToRead (by_stable q words) mid old
        → (put : Change) × PutsBack f.tells (f.bytes_at a) text put × (f.whole → Makes (put ∷ []) (f.trace a) (f.trace b) (f.bytes_at a) (f.bytes_at b)) → FallsBack q text old new r → EndsQuestion f a b q start new r
    fallen-ends mid old minor text words r full way fails put (inl h) =
        counts-ends (first_command q) text q.cargo_version (put.0 ∷ []) r (subst (λ n. LeadsToStage f.tells q (f.bytes_at a) start (taken (first_command q) text q.cargo_version) n (put.0 ∷ [])) (sym h.1) (first_counts words full way fails put.1 h.0)) put.2 h.2
    fallen-ends mid old minor text words r full way fails put (inr h) = cargo-ends old (put.0 ∷ []) r (asks_again words full way fails put.1 h.0) put.2 h.1
