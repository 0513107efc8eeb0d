-- Calls of files, one after another, of which at most the last failed.
use Rattle.std.proofs.Common.{◌≡◌, ℕ, ◌∙◌, ◌⊎◌, ap, inl, inr, List, [], ◌∷◌, Some, None, Result, Ok, Err, sym, subst, string_bytes}
use Rattle.std.specs.Prelude.{◌||◌, IsSome, option_map, true, false}
use Rattle.std.specs.List.{find}
use Rattle.std.proofs.lemmas.Bool.{false≢true}
use Rattle.hack_base.specs.Names.{Name}
use Rattle.hack_files.specs.Faults.{IsOfRead, IsOfText, IsOfWrite, IsUnseenUnlessNoText}
use Rattle.hack_files.specs.Files.{Contents}
use Rattle.hack_files.specs.declared.fs.Files.{Ghosts as Filing}
use Rattle.hack_files.specs.declared.fs.FsFault.{FsFault}
use Rattle.hack_files.specs.declared.fs.FsFault.TheVariants as fs
use Rattle.hack_manifest.specs.LineRuns.{has_some}
use Rattle.hack_files.proofs.FilesLemmas.{trace_steps}
use Rattle.hack_files.specs.FailedCalls.{LookFailed, NoneFailed, WriteFailed}
use Rattle.hack_load.specs.Contexts.{ContextRecord}
use Rattle.hack_prepare.specs.FailedCalls.{FailsOnlySo, FailsOnlySoIn, IsAbsent, IsOfFailedCall}
use Rattle.hack_prepare.specs.Internal.{IsOfFile, KeepsApart, Nowhere, OnlyIf}
use Rattle.hack_prepare.specs.Paths.{IsEdited, IsLookedAt, IsReadRoot}
use Rattle.hack_prepare.specs.Prepared.{MemberManifest, Wanted, edits_root, gone_manifests, is_root}
use Rattle.hack_prepare.specs.PreparedView.{IsEditedIn, IsLookedAtIn, IsReadRootIn, edits_in, member_manifests_in, wanted_in}
use Rattle.hack_prepare.proofs.FaultLemmas.{root-edited}
use Rattle.hack_prepare.proofs.RootLemmas.{drops-found, drops-missed, edits-is, root-apart, root-found, root-missed, text_in}
use Rattle.hack_prepare.specs.declared.fault.PrepareFault.TheVariants.{Memory, PrivateRoot, Files, Toml, InlineTarget, WorkspaceForm, PathText, ReadBack}
use Rattle.hack_prepare.specs.declared.fault.PrepareFault.{PrepareFault}

pub no-call : {F : Type 0} (f : Filing F) (a : F) → NoneFailed f a a
no-call f a = record { unseen = f.unseen_none a; refused = f.refuses_none a }

pub calls-on : {F : Type 0} (f : Filing F) (a b c : F) → NoneFailed f a b → NoneFailed f b c → NoneFailed f a c
calls-on f a b c p q = record { unseen = f.unseen_more a b c [] [] p.unseen q.unseen; refused = f.refuses_more a b c [] [] p.refused q.refused }

look_then : {F : Type 0} (f : Filing F) (path : Name) (a b c : F) → NoneFailed f a b → LookFailed f path b c → LookFailed f path a c
look_then f path a b c p q = record { unseen = f.unseen_more a b c [] (path ∷ []) p.unseen q.unseen; refused = f.refuses_more a b c [] [] p.refused q.refused }

refused_then : {F : Type 0} (f : Filing F) (path : Name) (a b c : F) → NoneFailed f a b → WriteFailed f path b c → WriteFailed f path a c
refused_then f path a b c p q = record { unseen = f.unseen_more a b c [] [] p.unseen q.unseen; refused = f.refuses_more a b c [] (path ∷ []) p.refused q.refused }

-- none failed, and then this error came
pub failed-on : {F : Type 0} (f : Filing F) (absent looks writes : Name → Type 0) (e : PrepareFault) (a b c : F) → NoneFailed f a b → IsOfFailedCall f absent looks writes b c e → IsOfFailedCall f absent looks writes a c e
failed-on f absent looks writes Memory a b c p (inl none) = inl (calls-on f a b c p none)
failed-on f absent looks writes Memory a b c p (inr (path, inl (at, look))) = inr (path, inl (at, look_then f path a b c p look))
failed-on f absent looks writes Memory a b c p (inr (path, inr (at, write))) = inr (path, inr (at, refused_then f path a b c p write))
failed-on f absent looks writes (Files (fs.Read q)) a b c p (inl look) = inl (look_then f (string_bytes q) a b c p look)
failed-on f absent looks writes (Files (fs.Read q)) a b c p (inr (gone, none)) = inr (gone, calls-on f a b c p none)
failed-on f absent looks writes (Files (fs.Write q)) a b c p h = refused_then f (string_bytes q) a b c p h
failed-on f absent looks writes (Files (fs.NotText q)) a b c p h = calls-on f a b c p h
failed-on f absent looks writes (Files fs.Memory) a b c p h = absurd h
failed-on f absent looks writes PrivateRoot a b c p h = calls-on f a b c p h
failed-on f absent looks writes (Toml q) a b c p h = calls-on f a b c p h
failed-on f absent looks writes (InlineTarget q) a b c p h = calls-on f a b c p h
failed-on f absent looks writes (WorkspaceForm q) a b c p h = calls-on f a b c p h
failed-on f absent looks writes (PathText q) a b c p h = calls-on f a b c p h
failed-on f absent looks writes (ReadBack q) a b c p h = calls-on f a b c p h

-- the same for a result
pub result-on : {F T : Type 0} (f : Filing F) (absent looks writes : Name → Type 0) (r : Result T PrepareFault) (a b c : F) → NoneFailed f a b → FailsOnlySo f absent looks writes b c r → FailsOnlySo f absent looks writes a c r
result-on f absent looks writes (Ok v) a b c p h = calls-on f a b c p h
result-on f absent looks writes (Err e) a b c p h = failed-on f absent looks writes e a b c p h

-- where more paths may be absent, are looked at, and are written
pub fault-wider : {F : Type 0} (f : Filing F) (P Q K L W X : Name → Type 0) (e : PrepareFault) (a b : F) → ((p : Name) → P p → Q p) → ((p : Name) → K p → L p) → ((p : Name) → W p → X p)
    → IsOfFailedCall f P K W a b e → IsOfFailedCall f Q L X a b e
fault-wider f P Q K L W X Memory a b absent looks writes (inl none) = inl none
fault-wider f P Q K L W X Memory a b absent looks writes (inr (path, inl (at, look))) = inr (path, inl (looks path at, look))
fault-wider f P Q K L W X Memory a b absent looks writes (inr (path, inr (at, write))) = inr (path, inr (writes path at, write))
fault-wider f P Q K L W X (Files (fs.Read q)) a b absent looks writes (inl look) = inl look
fault-wider f P Q K L W X (Files (fs.Read q)) a b absent looks writes (inr (gone, none)) = inr (absent (string_bytes q) gone, none)
fault-wider f P Q K L W X (Files (fs.Write q)) a b absent looks writes h = h
fault-wider f P Q K L W X (Files (fs.NotText q)) a b absent looks writes h = h
fault-wider f P Q K L W X (Files fs.Memory) a b absent looks writes h = h
fault-wider f P Q K L W X PrivateRoot a b absent looks writes h = h
fault-wider f P Q K L W X (Toml q) a b absent looks writes h = h
fault-wider f P Q K L W X (InlineTarget q) a b absent looks writes h = h
fault-wider f P Q K L W X (WorkspaceForm q) a b absent looks writes h = h
fault-wider f P Q K L W X (PathText q) a b absent looks writes h = h
fault-wider f P Q K L W X (ReadBack q) a b absent looks writes h = h

pub result-wider : {F T : Type 0} (f : Filing F) (P Q K L W X : Name → Type 0) (r : Result T PrepareFault) (a b : F) → ((p : Name) → P p → Q p) → ((p : Name) → K p → L p) → ((p : Name) → W p → X p)
    → FailsOnlySo f P K W a b r → FailsOnlySo f Q L X a b r
result-wider f P Q K L W X (Ok v) a b absent looks writes h = h
result-wider f P Q K L W X (Err e) a b absent looks writes h = fault-wider f P Q K L W X e a b absent looks writes h

-- ---- errors

-- a path can't be seen
pub look-fails : {F : Type 0} (f : Filing F) (absent looks writes : Name → Type 0) (path : Name) (fault : FsFault) (e : PrepareFault) (a b : F) → looks path → IsOfRead path fault → IsOfFile fault e → LookFailed f path a b → IsOfFailedCall f absent looks writes a b e
look-fails f absent looks writes path (fs.Read p) e a b look at is h = subst (IsOfFailedCall f absent looks writes a b) (sym is) (inl (subst (λ (q : Name). LookFailed f q a b) (sym at) h))
look-fails f absent looks writes path (fs.Write p) e a b look at is h = absurd at
look-fails f absent looks writes path (fs.NotText p) e a b look at is h = absurd at
look-fails f absent looks writes path fs.Memory e a b look at is h = subst (IsOfFailedCall f absent looks writes a b) (sym is) (inr (path, inl (look, h)))

-- a path can't be written
pub write-fails : {F : Type 0} (f : Filing F) (absent looks writes : Name → Type 0) (path : Name) (fault : FsFault) (e : PrepareFault) (a b : F) → writes path → IsOfWrite path fault → IsOfFile fault e → WriteFailed f path a b → IsOfFailedCall f absent looks writes a b e
write-fails f absent looks writes path (fs.Read p) e a b write at is h = absurd at
write-fails f absent looks writes path (fs.Write p) e a b write at is h = subst (IsOfFailedCall f absent looks writes a b) (sym is) (subst (λ (q : Name). WriteFailed f q a b) (sym at) h)
write-fails f absent looks writes path (fs.NotText p) e a b write at is h = absurd at
write-fails f absent looks writes path fs.Memory e a b write at is h = subst (IsOfFailedCall f absent looks writes a b) (sym is) (inr (path, inr (write, h)))

-- a path isn't read as a text, or nothing is there
pub text-fails : {F : Type 0} (f : Filing F) (reads writes : Name → Type 0) (path : Name) (fault : FsFault) (e : PrepareFault) (m n : ℕ) (a b : F) → reads path → IsOfText path f.tells (f.bytes_at a path) m n fault → IsOfFile fault e
    → f.refuses a b [] → IsUnseenUnlessNoText {T = Unit {0}} (f.unseen a b) f.tells (f.bytes_at a path) path (Err fault) → IsOfFailedCall f (IsAbsent f.tells (f.bytes_at a) reads) reads writes a b e
text-fails f reads writes path (fs.Read p) e m n a b read at is none (inl u) =
    subst (IsOfFailedCall f (IsAbsent f.tells (f.bytes_at a) reads) reads writes a b) (sym is) (inl (subst (λ (q : Name). LookFailed f q a b) (sym at.0) (record { unseen = u; refused = none })))
text-fails f reads writes path (fs.Read p) e m n a b read at is none (inr (u, tells, gone)) =
    subst (IsOfFailedCall f (IsAbsent f.tells (f.bytes_at a) reads) reads writes a b) (sym is) (inr (subst (IsAbsent f.tells (f.bytes_at a) reads) (sym at.0) (read, tells, gone), record { unseen = u; refused = none }))
text-fails f reads writes path (fs.Write p) e m n a b read at is none h = absurd at
text-fails f reads writes path (fs.NotText p) e m n a b read at is none h = subst (IsOfFailedCall f (IsAbsent f.tells (f.bytes_at a) reads) reads writes a b) (sym is) (record { unseen = h; refused = none })
text-fails f reads writes path fs.Memory e m n a b read at is none (inl u) = subst (IsOfFailedCall f (IsAbsent f.tells (f.bytes_at a) reads) reads writes a b) (sym is) (inr (path, inl (read, record { unseen = u; refused = none })))
text-fails f reads writes path fs.Memory e m n a b read at is none (inr u) = subst (IsOfFailedCall f (IsAbsent f.tells (f.bytes_at a) reads) reads writes a b) (sym is) (inl (record { unseen = u; refused = none }))

-- after a look that found something, a read that fails leaves the path unseen
pub unseen-there : {F : Type 0} (f : Filing F) (path : Name) (a b c : F) → (f.tells → IsSome (f.bytes_at b path)) → NoneFailed f a b → f.refuses b c []
    → f.unseen b c (path ∷ []) ⊎ (f.unseen b c [] × f.tells × (f.bytes_at b path ≡ None)) → LookFailed f path a c
unseen-there f path a b c there p again (inl u) = record { unseen = f.unseen_more a b c [] (path ∷ []) p.unseen u; refused = f.refuses_more a b c [] [] p.refused again }
unseen-there f path a b c there p again (inr (u, tells, none)) = absurd (false≢true (subst IsSome none (there tells)))

-- ---- the manifest in the folder of the workspace

-- a member's text
pub found-calls : {F T : Type 0} (f : Filing F) (w : Wanted) (ms : List MemberManifest) (private : List Name) (text : Name) (held : Contents) (r : Result T PrepareFault) (a b : F)
    → Some text ≡ option_map text_in (find (is_root w) ms) → w.no_private ≡ true → private ≡ gone_manifests w ms
    → FailsOnlySo f Nowhere Nowhere (OnlyIf (w.drops_dev || has_some private) w.root) a b r → FailsOnlySo f (IsAbsent f.tells held (IsReadRoot w ms)) (IsReadRoot w ms) (OnlyIf (edits_root w ms) w.root) a b r
found-calls f w ms private text held r a b found wanted same h =
    let asks = edits-is w ms w.drops_dev private wanted (drops-found w ms (root-found w ms text found)) same in
    result-wider f Nowhere (IsAbsent f.tells held (IsReadRoot w ms)) Nowhere (IsReadRoot w ms) (OnlyIf (w.drops_dev || has_some private) w.root) (OnlyIf (edits_root w ms) w.root) r a b
    (λ p x. absurd x) (λ p x. absurd x) (λ p x. (asks ∙ x.0, x.1)) h

-- a text that no member has read
pub missed-calls : {F T : Type 0} (f : Filing F) (w : Wanted) (ms : List MemberManifest) (private : List Name) (held : Contents) (r : Result T PrepareFault) (a b : F)
    → None ≡ option_map text_in (find (is_root w) ms) → w.no_private ≡ true → private ≡ gone_manifests w ms
    → FailsOnlySo f (IsAbsent f.tells held (OnlyIf (has_some private) w.root)) (OnlyIf (has_some private) w.root) (OnlyIf (has_some private) w.root) a b r
    → FailsOnlySo f (IsAbsent f.tells held (IsReadRoot w ms)) (IsReadRoot w ms) (OnlyIf (edits_root w ms) w.root) a b r
missed-calls f w ms private held r a b missed wanted same h =
    let bare = root-missed w ms missed in
    let asks = edits-is w ms false private wanted (drops-missed w ms bare) same in
    let at = OnlyIf (has_some private) w.root in
    result-wider f (IsAbsent f.tells held at) (IsAbsent f.tells held (IsReadRoot w ms)) at (IsReadRoot w ms) at (OnlyIf (edits_root w ms) w.root) r a b
    (λ p x. ((asks ∙ x.0.0, bare, x.0.1), x.1, x.2)) (λ p x. (asks ∙ x.0, bare, x.1)) (λ p x. (asks ∙ x.0, x.1)) h

-- it is absent now only where it was before members were edited
pub root-calls : {F : Type 0} (f : Filing F) (w : Wanted) (ms : List MemberManifest) (start mid : Contents) (e : PrepareFault) (a b c : F) → (f.tells → KeepsApart w ms start mid) → NoneFailed f a b
    → IsOfFailedCall f (IsAbsent f.tells mid (IsReadRoot w ms)) (IsReadRoot w ms) (OnlyIf (edits_root w ms) w.root) b c e → IsOfFailedCall f (IsAbsent f.tells start (IsReadRoot w ms)) (IsLookedAt w ms) (IsEdited w ms) a c e
root-calls f w ms start mid e a b c apart none h =
    let absent = IsAbsent f.tells start (IsReadRoot w ms) in
    failed-on f absent (IsLookedAt w ms) (IsEdited w ms) e a b c none
    (fault-wider f (IsAbsent f.tells mid (IsReadRoot w ms)) absent (IsReadRoot w ms) (IsLookedAt w ms) (OnlyIf (edits_root w ms) w.root) (IsEdited w ms) e b c (λ p x. (
      x.0,
      x.1,
      let same : mid p ≡ start p = ap mid x.0.2 ∙ apart x.1 w.root (root-apart w ms x.0.0) ∙ ap start (sym x.0.2) in
          sym same ∙ x.2,
    )) (λ p x. inl x) (root-edited w ms) h)

-- where manifests are edited at all
pub asked-calls : {F T : Type 0} (f : Filing F) (cx : ContextRecord) (r : Result T PrepareFault) (a b : F) → edits_in cx ≡ true
    → FailsOnlySo f (IsAbsent f.tells (f.bytes_at a) (IsReadRootIn cx)) (IsLookedAt (wanted_in cx) (member_manifests_in cx)) (IsEditedIn cx) a b r → FailsOnlySoIn f cx a b r
asked-calls f cx (Ok v) a b asked h = h
asked-calls f cx (Err e) a b asked h =
    let absent = IsAbsent f.tells (f.bytes_at a) (IsReadRootIn cx) in
    fault-wider f absent absent (IsLookedAt (wanted_in cx) (member_manifests_in cx)) (IsLookedAtIn cx) (IsEditedIn cx) (IsEditedIn cx) e a b (λ p x. x) (λ p x. (asked, x)) (λ p x. x) h

-- what calls of which at most the last failed are put together by
pub ruleset call_steps = (no-call, calls-on, result-on, trace_steps)
