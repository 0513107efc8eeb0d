-- Why manifests aren't edited, by parts.
use Rattle.std.proofs.Common.{◌≡◌, inl, inr, ◌∙◌, Bool, true, false, List, Some, None, Result, Ok, Err, IfErr, refl, sym, ap, subst, string_bytes}
use Rattle.std.specs.Prelude.{◌&&◌, ◌||◌, Contains, option_map}
use Rattle.std.specs.List.{find, list_any}
use Rattle.std.specs.Str.{bytes_eq}
use Rattle.std.proofs.lemmas.Bool.{true≢false}
use Rattle.std.proofs.lemmas.Slice.Eq.{bytes_eq-Decides}
use Rattle.hack_base.specs.Names.{Name}
use Rattle.hack_files.specs.Faults.{HoldsNoText, IsOfText}
use Rattle.hack_files.specs.Files.{Contents, KeepsOthers}
use Rattle.hack_files.specs.declared.fs.FsFault.{FsFault}
use Rattle.hack_files.specs.declared.fs.FsFault.TheVariants as fs
use Rattle.hack_prepare.specs.Faults.{AtFileWrite, AtWrite, IsDevFault, IsEditsFault, IsPathFaultOr, IsPathFault, IsMembersFault, IsRootFault, IsRootTextFault, IsUnmade}
use Rattle.hack_prepare.specs.Internal.{IsHeldFault, IsOfFile, NoFault, IsAlonePath, Nowhere, Only, OnlyIf, ArePartlyTurned, AreTurned, KeepsApart, KeepsBut}
use Rattle.hack_prepare.specs.Paths.{IsEdited, IsLookedAt, IsReadRoot, IsTextless}
use Rattle.hack_prepare.specs.Prepared.{HoldTexts, IsPartlyPrepared, MemberManifest, Wanted, edits_root, is_removed, gone_manifests, is_alone, is_alone_at, is_root}
use Rattle.hack_manifest.specs.LineRuns.{has_some}
use Rattle.hack_load.specs.Contexts.{ContextRecord}
use Rattle.hack_prepare.specs.PreparedView.{IsPrepareFault, edits_in, member_manifests_in, wanted_in}
use Rattle.hack_prepare.proofs.MemberLemmas.{alone-path, partly-fails}
use Rattle.hack_prepare.proofs.RootLemmas.{drops-found, drops-missed, edits-is, root-apart, root-found, partly-root, root-missed, root-read, text-found, text-missed, text_in}
use Rattle.hack_prepare.specs.declared.fault.PrepareFault.TheVariants.{Memory, PrivateRoot, Files, Toml, InlineTarget, WorkspaceForm, PathText, ReadBack}
use Rattle.hack_prepare.specs.declared.fault.PrepareFault.{PrepareFault}

file_among : (R S W X G H : Name → Type 0) → ((p : Name) → R p → S p) → ((p : Name) → W p → X p) → ((p : Name) → G p → H p) → (f : FsFault) → IsPathFault R W G f → IsPathFault S X H f
file_among R S W X G H r w g (fs.Read p) x = r (string_bytes p) x
file_among R S W X G H r w g (fs.Write p) x = w (string_bytes p) x
file_among R S W X G H r w g (fs.NotText p) x = g (string_bytes p) x
file_among R S W X G H r w g fs.Memory x = x

-- an error of a part is one of the whole
pub fault-among : (R S W X G H : Name → Type 0) (P Q : PrepareFault → Type 0) → ((p : Name) → R p → S p) → ((p : Name) → W p → X p) → ((p : Name) → G p → H p) → ((e : PrepareFault) → P e → Q e)
    → (e : PrepareFault) → IsPathFaultOr R W G P e → IsPathFaultOr S X H Q e
fault-among R S W X G H P Q r w g q e (inl x) = inl x
fault-among R S W X G H P Q r w g q e (inr (inl x)) = inr (inl (x.0, x.1, file_among R S W X G H r w g x.0 x.2))
fault-among R S W X G H P Q r w g q e (inr (inr x)) = inr (inr (q e x))

-- the same for a result
pub err-among : {T : Type 0} (R S W X G H : Name → Type 0) (P Q : PrepareFault → Type 0) → ((p : Name) → R p → S p) → ((p : Name) → W p → X p) → ((p : Name) → G p → H p) → ((e : PrepareFault) → P e → Q e)
    → (r : Result T PrepareFault) → IfErr r (IsPathFaultOr R W G P) → IfErr r (IsPathFaultOr S X H Q)
err-among R S W X G H P Q r w g q (Ok v) x = x
err-among R S W X G H P Q r w g q (Err e) x = fault-among R S W X G H P Q r w g q e x

-- a file that isn't read as a text
pub text-fault : (path : Name) (asked : Bool) (tells : Type 0) (held : Contents) (P : PrepareFault → Type 0) (before now : _) (f : FsFault) (e : PrepareFault) → asked ≡ true
    → IsOfText path tells (held path) before now f → IsOfFile f e → IsPathFaultOr (OnlyIf asked path) (OnlyIf asked path) (IsTextless tells held (OnlyIf asked path)) P e
text-fault path asked tells held P before now (fs.Read p) e on h is = inr (inl (fs.Read p, is, (on, h.0)))
text-fault path asked tells held P before now (fs.Write p) e on h is = absurd h
text-fault path asked tells held P before now (fs.NotText p) e on h is = inr (inl (fs.NotText p, is, ((on, h.0), subst (λ q. HoldsNoText tells (held q)) (sym h.0) h.2)))
text-fault path asked tells held P before now fs.Memory e on h is = inl is

-- ---- members

-- a member's error is one of the members'
pub member-fault : (w : Wanted) (ms : List MemberManifest) (m : MemberManifest) (e : PrepareFault) → Contains ms m → is_alone w m ≡ true → IsPathFaultOr Nowhere (Only m.path) Nowhere (IsDevFault m.path m.text) e
    → IsPathFaultOr Nowhere (IsAlonePath w ms) Nowhere (IsMembersFault w ms) e
member-fault w ms m e among alone x =
    fault-among Nowhere Nowhere (Only m.path) (IsAlonePath w ms) Nowhere Nowhere (IsDevFault m.path m.text) (IsMembersFault w ms) (λ p h. h) (λ p is. alone-path w ms m p among alone is) (λ p h. h)
    (λ e' f. inr (record { member = m; among = among; alone = alone; fault = f })) e x

-- a private member at the root is one of the members' errors
pub root-fault : (w : Wanted) (ms : List MemberManifest) (m : MemberManifest) → Contains ms m → is_removed w m ≡ true → is_root w m ≡ true → IsPathFaultOr Nowhere (IsAlonePath w ms) Nowhere (IsMembersFault w ms) PrivateRoot
root-fault w ms m among go root = inr (inr (inl (refl, record { member = m; among = among; removed = go; at_root = root })))

-- ---- the root

-- what was read isn't edited
pub virtual-fault : {T : Type 0} (tells : Type 0) (w : Wanted) (private : List Name) (text held : Name) (old : Contents) (r : Result T PrepareFault) → held ≡ text → (tells → old w.root ≡ Some text)
    → IfErr r (IsPathFaultOr Nowhere (OnlyIf (false || has_some private) w.root) Nowhere (λ e. ((false || has_some private) ≡ true) × IsRootTextFault w false private held e))
    → IfErr r (IsPathFaultOr (OnlyIf (has_some private) w.root) (OnlyIf (has_some private) w.root) (IsTextless tells old (OnlyIf (has_some private) w.root)) (IsHeldFault w private tells old))
virtual-fault tells w private text held old r same read x =
    let at = OnlyIf (has_some private) w.root in
    err-among Nowhere at at at Nowhere (IsTextless tells old at) _ _ (λ p h. absurd h) (λ p h. h) (λ p h. absurd h)
    (λ e f. (f.0, text, read, subst (λ t. IsRootTextFault w false private t e) same f.1)) r x

-- a member's text isn't edited
pub found-fault : {T : Type 0} (tells : Type 0) (w : Wanted) (ms : List MemberManifest) (private : List Name) (text : Name) (held : Contents) (r : Result T PrepareFault)
    → Some text ≡ option_map text_in (find (is_root w) ms) → w.no_private ≡ true → private ≡ gone_manifests w ms
    → IfErr r (IsPathFaultOr Nowhere (OnlyIf (w.drops_dev || has_some private) w.root) Nowhere (λ e. ((w.drops_dev || has_some private) ≡ true) × IsRootTextFault w w.drops_dev private text e))
    → IfErr r (IsPathFaultOr (IsReadRoot w ms) (OnlyIf (edits_root w ms) w.root) (IsTextless tells held (IsReadRoot w ms)) (IsRootFault w ms tells held))
found-fault tells w ms private text held r found wanted same x =
    let drops = drops-found w ms (root-found w ms text found) in
    let asks = edits-is w ms w.drops_dev private wanted drops same in
    err-among Nowhere (IsReadRoot w ms) (OnlyIf (w.drops_dev || has_some private) w.root) (OnlyIf (edits_root w ms) w.root) Nowhere (IsTextless tells held (IsReadRoot w ms)) _ _
    (λ p h. absurd h) (λ p h. (asks ∙ h.0, h.1)) (λ p h. absurd h)
    (λ e f. record {
      text = text;
      asked = asks ∙ f.0;
      read = λ t. text-found w ms text held found;
      fault = subst (λ b. IsRootTextFault w b (gone_manifests w ms) text e) (sym drops) (subst (λ l. IsRootTextFault w w.drops_dev l text e) same f.1);
    }) r x

-- a text that no member has read isn't edited
pub missed-fault : {T : Type 0} (tells : Type 0) (w : Wanted) (ms : List MemberManifest) (private : List Name) (held : Contents) (r : Result T PrepareFault)
    → None ≡ option_map text_in (find (is_root w) ms) → w.no_private ≡ true → private ≡ gone_manifests w ms
    → IfErr r (IsPathFaultOr (OnlyIf (has_some private) w.root) (OnlyIf (has_some private) w.root) (IsTextless tells held (OnlyIf (has_some private) w.root)) (IsHeldFault w private tells held))
    → IfErr r (IsPathFaultOr (IsReadRoot w ms) (OnlyIf (edits_root w ms) w.root) (IsTextless tells held (IsReadRoot w ms)) (IsRootFault w ms tells held))
missed-fault tells w ms private held r missed wanted same x =
    let bare = root-missed w ms missed in
    let drops = drops-missed w ms bare in
    let asks = edits-is w ms false private wanted drops same in
    let at = OnlyIf (has_some private) w.root in
    err-among at (IsReadRoot w ms) at (OnlyIf (edits_root w ms) w.root) (IsTextless tells held at) (IsTextless tells held (IsReadRoot w ms)) _ _
    (λ p h. (asks ∙ h.0, bare, h.1)) (λ p h. (asks ∙ h.0, h.1)) (λ p h. ((asks ∙ h.0.0, bare, h.0.1), h.1))
    (λ e f. record {
      text = f.1;
      asked = asks ∙ f.0;
      read = λ t. text-missed w ms f.1 held missed (f.2 t);
      fault = subst (λ b. IsRootTextFault w b (gone_manifests w ms) f.1 e) (sym drops) (subst (λ l. IsRootTextFault w false l f.1 e) same f.3);
    }) r x

-- ---- all together

or_second : (a b : Bool) → b ≡ true → (a || b) ≡ true
or_second true b e = refl
or_second false b e = e

or_first : (a b : Bool) → a ≡ true → (a || b) ≡ true
or_first true b e = refl
or_first false b e = absurd (true≢false (sym e))

-- where a member's manifest is edited by itself, that path is edited
pub alone-edited : (w : Wanted) (ms : List MemberManifest) (p : Name) → IsAlonePath w ms p → IsEdited w ms p
alone-edited w ms p h = or_first (list_any (is_alone_at w p) ms) (edits_root w ms && bytes_eq p w.root) h

-- and so is the root's manifest, if it is to be
pub root-edited : (w : Wanted) (ms : List MemberManifest) (p : Name) → OnlyIf (edits_root w ms) w.root p → IsEdited w ms p
root-edited w ms p h = or_second (list_any (is_alone_at w p) ms) (edits_root w ms && bytes_eq p w.root) (ap (λ b. b && bytes_eq p w.root) h.0 ∙ (bytes_eq-Decides p w.root).1 h.1)

-- an error of the members is one of all
pub members-among : (tells : Type 0) (w : Wanted) (ms : List MemberManifest) (start : Contents) (e : PrepareFault)
    → IsPathFaultOr Nowhere (IsAlonePath w ms) Nowhere (IsMembersFault w ms) e → IsEditsFault w ms tells start e
members-among tells w ms start e x =
    fault-among Nowhere (IsLookedAt w ms) (IsAlonePath w ms) (IsEdited w ms) Nowhere (IsTextless tells start (IsReadRoot w ms)) (IsMembersFault w ms) (IsUnmade w ms tells start)
    (λ p h. absurd h) (alone-edited w ms) (λ p h. absurd h) (λ e' f. inl f) e x

-- an error of the root is one of all
pub root-among : (tells : Type 0) (w : Wanted) (ms : List MemberManifest) (start mid : Contents) (e : PrepareFault) → (tells → KeepsApart w ms start mid)
    → IsPathFaultOr (IsReadRoot w ms) (OnlyIf (edits_root w ms) w.root) (IsTextless tells mid (IsReadRoot w ms)) (IsRootFault w ms tells mid) e → IsEditsFault w ms tells start e
root-among tells w ms start mid e apart x =
    fault-among (IsReadRoot w ms) (IsLookedAt w ms) (OnlyIf (edits_root w ms) w.root) (IsEdited w ms) (IsTextless tells mid (IsReadRoot w ms)) (IsTextless tells start (IsReadRoot w ms))
    (IsRootFault w ms tells mid) (IsUnmade w ms tells start) (λ p h. inl h) (root-edited w ms)
    (λ p h. (
      h.0,
      λ t.
          let same : mid p ≡ start p = ap mid h.0.2 ∙ apart t w.root (root-apart w ms h.0.0) ∙ ap start (sym h.0.2) in
          let b = h.1 t in (b.0, sym same ∙ b.1, b.2),
    ))
    (λ e' f. inr (record { text = f.text; asked = f.asked; read = λ t. root-read w ms start mid f.text (apart t) (f.read t); fault = f.fault })) e x

-- an error of the lockfile is one of all
pub lock-among : (tells : Type 0) (w : Wanted) (ms : List MemberManifest) (start : Contents) (e : PrepareFault)
    → IsPathFaultOr (Only w.lockfile) Nowhere Nowhere NoFault e → IsEditsFault w ms tells start e
lock-among tells w ms start e x =
    fault-among (Only w.lockfile) (IsLookedAt w ms) Nowhere (IsEdited w ms) Nowhere (IsTextless tells start (IsReadRoot w ms)) NoFault (IsUnmade w ms tells start)
    (λ p h. inr h) (λ p h. absurd h) (λ p h. absurd h) (λ e' f. absurd f) e x

-- where manifests are edited at all
pub asked-fault : {T : Type 0} (tells : Type 0) (cx : ContextRecord) (start : Contents) (r : Result T PrepareFault) → edits_in cx ≡ true
    → IfErr r (IsEditsFault (wanted_in cx) (member_manifests_in cx) tells start) → IfErr r (IsPrepareFault cx tells start)
asked-fault tells cx start (Ok v) asked x = x
asked-fault tells cx start (Err e) asked x = inr (asked, x)

-- ---- where a path can't be written

at-file : (W Q : Name → Type 0) (R T : Name → Type 0) → ((p : Name) → W p → Q p) → (f : FsFault) → IsPathFault R W T f → AtFileWrite Q f
at-file W Q R T w (fs.Read p) h = tt
at-file W Q R T w (fs.Write p) h = w (string_bytes p) h
at-file W Q R T w (fs.NotText p) h = tt
at-file W Q R T w fs.Memory h = tt

-- an error that names just such paths
pub at-write : (R W T : Name → Type 0) (P : PrepareFault → Type 0) (Q : Name → Type 0) → ((p : Name) → W p → Q p) → ((e : PrepareFault) → P e → AtWrite Q e) → (e : PrepareFault) → IsPathFaultOr R W T P e → AtWrite Q e
at-write R W T P Q w p e (inl is) = subst (AtWrite Q) (sym is) tt
at-write R W T P Q w p e (inr (inl x)) = subst (AtWrite Q) (sym x.1) (at-file W Q R T w x.0 x.2)
at-write R W T P Q w p e (inr (inr x)) = p e x

-- any path
pub at-any : (Q : Name → Type 0) → ((p : Name) → Q p) → (e : PrepareFault) → AtWrite Q e
at-any Q q Memory = tt
at-any Q q PrivateRoot = tt
at-any Q q (Files f) = by f
  where
    by : (f : FsFault) → AtFileWrite Q f
    by (fs.Read p) = tt
    by (fs.Write p) = q (string_bytes p)
    by (fs.NotText p) = tt
    by fs.Memory = tt
at-any Q q (Toml p) = tt
at-any Q q (InlineTarget p) = tt
at-any Q q (WorkspaceForm p) = tt
at-any Q q (PathText p) = tt
at-any Q q (ReadBack p) = tt

-- the same for a weaker property
pub at-wider : (P Q : Name → Type 0) → ((p : Name) → P p → Q p) → (e : PrepareFault) → AtWrite P e → AtWrite Q e
at-wider P Q to Memory h = tt
at-wider P Q to PrivateRoot h = tt
at-wider P Q to (Files f) h = by f h
  where
    by : (f : FsFault) → AtFileWrite P f → AtFileWrite Q f
    by (fs.Read p) h = tt
    by (fs.Write p) h = to (string_bytes p) h
    by (fs.NotText p) h = tt
    by fs.Memory h = tt
at-wider P Q to (Toml p) h = tt
at-wider P Q to (InlineTarget p) h = tt
at-wider P Q to (WorkspaceForm p) h = tt
at-wider P Q to (PathText p) h = tt
at-wider P Q to (ReadBack p) h = tt

-- an error of an edit isn't one of a write
edit-at : (Q : Name → Type 0) (P : PrepareFault → Type 0) → ((f : FsFault) → P (Files f) → ⊥) → (e : PrepareFault) → P e → AtWrite Q e
edit-at Q P none Memory h = tt
edit-at Q P none PrivateRoot h = tt
edit-at Q P none (Files f) h = absurd (none f h)
edit-at Q P none (Toml p) h = tt
edit-at Q P none (InlineTarget p) h = tt
edit-at Q P none (WorkspaceForm p) h = tt
edit-at Q P none (PathText p) h = tt
edit-at Q P none (ReadBack p) h = tt

-- a member's manifest can't be written: the others are spared
pub member-spared : (tells : Type 0) (w : Wanted) (ms : List MemberManifest) (m : MemberManifest) (start held now : Contents) (e : PrepareFault) → Contains ms m
    → (tells → HoldTexts start ms → ArePartlyTurned w ms (λ q. ⊥) start held) → (tells → KeepsOthers m.path held now) → IsPathFaultOr Nowhere (Only m.path) Nowhere (IsDevFault m.path m.text) e
    → AtWrite (λ p. tells → HoldTexts start ms → ArePartlyTurned w ms (λ q. q ≡ p) start now) e
member-spared tells w ms m start held now e among before keeps h =
    at-write Nowhere (Only m.path) Nowhere (IsDevFault m.path m.text) (λ p. tells → HoldTexts start ms → ArePartlyTurned w ms (λ q. q ≡ p) start now)
    (λ p is. partly-fails tells w ms m (λ q. q ≡ p) start held now among before (λ _. inr (inr (sym is))) keeps)
    (edit-at (λ p. tells → HoldTexts start ms → ArePartlyTurned w ms (λ q. q ≡ p) start now) (IsDevFault m.path m.text) (λ f h. h)) e h

-- the root's can't
pub root-spared : (tells : Type 0) (w : Wanted) (ms : List MemberManifest) (private : List Name) (old mid late : Contents) (e : PrepareFault) → private ≡ gone_manifests w ms → (tells → HoldTexts old ms → AreTurned w ms mid) → (tells → KeepsApart w ms old mid)
    → (tells → KeepsBut w (edits_root w ms) mid late) → IsPathFaultOr (IsReadRoot w ms) (OnlyIf (edits_root w ms) w.root) (IsTextless tells mid (IsReadRoot w ms)) (IsRootFault w ms tells mid) e
    → AtWrite (λ p. tells → HoldTexts old ms → IsPartlyPrepared w ms (λ q. q ≡ p) old late) e
root-spared tells w ms private old mid late e are turned apart keeps h =
    at-write (IsReadRoot w ms) (OnlyIf (edits_root w ms) w.root) (IsTextless tells mid (IsReadRoot w ms)) (IsRootFault w ms tells mid) (λ p. tells → HoldTexts old ms → IsPartlyPrepared w ms (λ q. q ≡ p) old late)
    (λ p is t holds. partly-root w ms private (Unit {0}) (λ q. q ≡ p) old mid late are holds (turned t holds) (apart t) (keeps t) (λ _. sym is.1) (inr (inr tt)))
    (edit-at (λ p. tells → HoldTexts old ms → IsPartlyPrepared w ms (λ q. q ≡ p) old late) (IsRootFault w ms tells mid) (λ f h. elim h.fault [ inl x ↦ x.1 | inr x ↦ x.2 ])) e h
