-- Which calls of files failed while what a call needs was loaded.
use Rattle.std.proofs.Common.{inl, inr, ℕ, List, [], Result, Ok, Err, sym, subst, string_bytes}
use Rattle.hack_base.specs.Names.{Name}
use Rattle.hack_files.specs.Faults.{IsOfText, IsUnseenUnlessNoText}
use Rattle.hack_files.specs.Files.{KeepsAll}
use Rattle.hack_files.specs.FailedCalls.{NoneFailed, ReadFailed}
use Rattle.hack_files.specs.declared.fs.Files.{Ghosts as Filing}
use Rattle.hack_files.specs.declared.fs.FsFault.{FsFault}
use Rattle.hack_files.specs.declared.fs.FsFault.TheVariants as fs
use Rattle.hack_files.proofs.FailedLemmas.{look_then, none_then, read_then}
use Rattle.hack_manifest.specs.declared.manifest.ManifestFault.{ManifestFault}
use Rattle.hack_manifest.specs.declared.manifest.ManifestFault.TheVariants as manifest
use Rattle.hack_process.specs.Calls.{Call}
use Rattle.hack_process.specs.CommandTexts.{Command}
use Rattle.hack_metadata.specs.FailedQuestions.{IsOfCallAt}
use Rattle.hack_metadata.specs.declared.ask.fault.AskFault.{AskFault}
use Rattle.hack_metadata.specs.declared.ask.fault.AskFault.TheVariants as ask
use Rattle.hack_metadata.specs.declared.metadata.Metadata.{Metadata}
use Rattle.hack_load.specs.Answers.{IsAskFault}
use Rattle.hack_load.specs.CargoQuestions.{FailsLocate}
use Rattle.hack_load.specs.FailedLoads.{FailsOnlyReading, FailsToLoad, IsOfLoading, IsOfReadAt}
use Rattle.hack_load.specs.Internal.{IsCallFaultOfFile, IsOfManifest}
use Rattle.hack_load.specs.declared.fault.ContextFault.{ContextFault}
use Rattle.hack_load.specs.declared.fault.ContextFault.TheVariants as faults

module _ {F : Type 0} (f : Filing F) where
  -- the read of a manifest failed
  pub text-of : (T : Type 0) (P : Name → Type 0) (path : Name) (a b : F) (x y : ℕ) (t : FsFault) (e : ContextFault) → P path → IsCallFaultOfFile t e → f.refuses a b []
      → IsUnseenUnlessNoText {T = T} (f.unseen a b) f.tells (f.bytes_at a path) path (Err t) → IsOfText path f.tells (f.bytes_at a path) x y t → IsOfReadAt f P a b e
  text-of T P path a b x y fs.Memory e here is refused (inl unseen) of = subst (IsOfReadAt f P a b) (sym is) (inr (path, here, record { unseen = unseen; refused = refused }))
  text-of T P path a b x y fs.Memory e here is refused (inr unseen) of = subst (IsOfReadAt f P a b) (sym is) (inl (record { unseen = unseen; refused = refused }))
  text-of T P path a b x y (fs.Read p) e here is refused (inl unseen) of =
      let failed : ReadFailed f path a b = inl (record { unseen = unseen; refused = refused }) in
      subst (IsOfReadAt f P a b) (sym is) (subst (λ q. P q × ReadFailed f q a b) (sym of.0) (here, failed))
  text-of T P path a b x y (fs.Read p) e here is refused (inr none) of =
      let failed : ReadFailed f path a b = inr (record { unseen = none.0; refused = refused }, none.1, none.2) in
      subst (IsOfReadAt f P a b) (sym is) (subst (λ q. P q × ReadFailed f q a b) (sym of.0) (here, failed))
  text-of T P path a b x y (fs.Write p) e here is refused h of = absurd of
  text-of T P path a b x y (fs.NotText p) e here is refused unseen of = subst (IsOfReadAt f P a b) (sym is) (record { unseen = unseen; refused = refused })

  -- a text is no manifest
  pub manifest-none : (P : Name → Type 0) (a b : F) (t : ManifestFault) (e : ContextFault) → IsOfManifest t e → NoneFailed f a b → IsOfReadAt f P a b e
  manifest-none P a b manifest.Memory e is h = subst (IsOfReadAt f P a b) (sym is) (inl h)
  manifest-none P a b (manifest.Toml path) e is h = subst (IsOfReadAt f P a b) (sym is) h
  manifest-none P a b (manifest.Field name path) e is h = subst (IsOfReadAt f P a b) (sym is) h

  -- cargo can't be asked for the current manifest
  pub locate-none : (P : Name → Type 0) (a b : F) (tells : Type 0) (c : Command) (dir : Name) (old new : List Call) (e : ContextFault) → FailsLocate tells c dir old new e → NoneFailed f a b → IsOfReadAt f P a b e
  locate-none P a b tells c dir old new faults.Memory is h = inl h
  locate-none P a b tells c dir old new (faults.Process p) is h = h
  locate-none P a b tells c dir old new (faults.Asked p) is h = absurd is
  locate-none P a b tells c dir old new (faults.Files p) is h = absurd is
  locate-none P a b tells c dir old new (faults.Manifest p) is h = absurd is
  locate-none P a b tells c dir old new faults.OldCargo is h = absurd is
  locate-none P a b tells c dir old new (faults.Metadata p) is h = absurd is
  locate-none P a b tells c dir old new (faults.NotJson p) is h = absurd is
  locate-none P a b tells c dir old new faults.Root is h = absurd is

  -- calls of which none failed and that changed nothing, and then one that may fail
  pub reads-then : (P Q : Name → Type 0) (a b c : F) (e : ContextFault) → ((path : Name) → P path → Q path) → NoneFailed f a b → (f.tells → KeepsAll (f.bytes_at a) (f.bytes_at b)) → IsOfReadAt f P b c e → IsOfReadAt f Q a c e
  reads-then P Q a b c faults.Memory to p same (inl h) = inl (none_then f a b c p h)
  reads-then P Q a b c faults.Memory to p same (inr h) = inr (h.0, to h.0 h.1, look_then f h.0 a b c p h.2)
  reads-then P Q a b c (faults.Files (fs.Read q)) to p same h = (to (string_bytes q) h.0, read_then f (string_bytes q) a b c p same h.1)
  reads-then P Q a b c (faults.Files (fs.Write q)) to p same h = absurd h
  reads-then P Q a b c (faults.Files (fs.NotText q)) to p same h = none_then f a b c p h
  reads-then P Q a b c (faults.Files fs.Memory) to p same h = absurd h
  reads-then P Q a b c (faults.Process q) to p same h = none_then f a b c p h
  reads-then P Q a b c (faults.Asked q) to p same h = absurd h
  reads-then P Q a b c (faults.Manifest q) to p same h = none_then f a b c p h
  reads-then P Q a b c faults.OldCargo to p same h = none_then f a b c p h
  reads-then P Q a b c (faults.Metadata q) to p same h = none_then f a b c p h
  reads-then P Q a b c (faults.NotJson q) to p same h = none_then f a b c p h
  reads-then P Q a b c faults.Root to p same h = none_then f a b c p h

  pub only-then : {X : Type 0} (P Q : Name → Type 0) (a b c : F) (r : Result X ContextFault) → ((path : Name) → P path → Q path) → NoneFailed f a b → (f.tells → KeepsAll (f.bytes_at a) (f.bytes_at b)) → FailsOnlyReading f P b c r → FailsOnlyReading f Q a c r
  only-then P Q a b c (Ok x) to p same h = none_then f a b c p h
  only-then P Q a b c (Err e) to p same h = reads-then P Q a b c e to p same h

  -- ---- the whole

  -- a read at a path of any kind
  read-loads : (P : Name → Type 0) (a b : F) (e : ContextFault) → IsOfReadAt f P a b e → IsOfLoading f a b e
  read-loads P a b faults.Memory (inl h) = inl h
  read-loads P a b faults.Memory (inr h) = inr (h.0, inl h.2)
  read-loads P a b (faults.Files (fs.Read q)) h = h.1
  read-loads P a b (faults.Files (fs.Write q)) h = absurd h
  read-loads P a b (faults.Files (fs.NotText q)) h = h
  read-loads P a b (faults.Files fs.Memory) h = absurd h
  read-loads P a b (faults.Process q) h = h
  read-loads P a b (faults.Asked q) h = absurd h
  read-loads P a b (faults.Manifest q) h = h
  read-loads P a b faults.OldCargo h = h
  read-loads P a b (faults.Metadata q) h = h
  read-loads P a b (faults.NotJson q) h = h
  read-loads P a b faults.Root h = h

  pub reads-load : {X : Type 0} (P : Name → Type 0) (a b c : F) (r : Result X ContextFault) → NoneFailed f a b → (f.tells → KeepsAll (f.bytes_at a) (f.bytes_at b)) → FailsOnlyReading f P b c r → FailsToLoad f a c r
  reads-load P a b c (Ok x) p same h = none_then f a b c p h
  reads-load P a b c (Err e) p same h = read-loads P a c e (reads-then P P a b c e (λ path here. here) p same h)

  -- the question for metadata ended the loading
  pub asked-loads : (path : Name) (a b : F) (why : AskFault) (e : ContextFault) → IsAskFault why e → IsOfCallAt f path a b why → IsOfLoading f a b e
  asked-loads path a b ask.Memory e is (inl h) = subst (IsOfLoading f a b) (sym is) (inl h)
  asked-loads path a b ask.Memory e is (inr (inl h)) = subst (IsOfLoading f a b) (sym is) (inr (path, inl h))
  asked-loads path a b ask.Memory e is (inr (inr h)) = subst (IsOfLoading f a b) (sym is) (inr (path, inr h))
  asked-loads path a b ask.NoHost e is h = subst (IsOfLoading f a b) (sym is) (path, h)
  asked-loads path a b (ask.Process q) e is h = subst (IsOfLoading f a b) (sym is) (path, h)
  asked-loads path a b (ask.Files q) e is h = subst (IsOfLoading f a b) (sym is) (path, h)
  asked-loads path a b (ask.Output q) e is h = subst (IsOfLoading f a b) (sym is) (path, h)
  asked-loads path a b (ask.Field q) e is h = subst (IsOfLoading f a b) (sym is) (path, h)
