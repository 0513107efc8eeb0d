use Rattle.std.proofs.Common.{◌≡◌, ◌∙◌, inl, inr, false, true, IfErr, IfOk, List, ap, sym, subst, map, OnErr, OnOk}
use Rattle.std.specs.Prelude.{◌||◌}
use Rattle.hack_prepare.specs.FailureCounts.{WriteFails}
use Rattle.hack_words.specs.declared.cli.args.Args.{Args}
use Rattle.hack_load.specs.ContextView.{context_view}
use Rattle.hack_base.specs.Notes.{note_of}
use Rattle.hack_prepare.specs.Faults.{AtWrite, IsEditsFault}
use Rattle.hack_prepare.specs.FailedCalls.{FailsOnlySo, IsAbsent}
use Rattle.hack_prepare.specs.Paths.{IsEdited, IsLookedAt, IsReadRoot, IsTouched}
use Rattle.hack_prepare.proofs.FailedLemmas.{asked-calls}
use Rattle.hack_prepare.specs.Prepared.{HoldTexts, IsPartlyPrepared, KeepsUnedited, MemberManifest, Wanted, edits}
use Rattle.hack_prepare.specs.PreparedView.{member_manifest_view, member_manifests_in, wanted_in}
use Rattle.hack_prepare.specs.Internal.{members_view, IsStep}
use Rattle.hack_prepare.specs.EditNotes.{notes}
use Rattle.hack_prepare.proofs.CountLemmas.{calls_grow}
use Rattle.hack_prepare.proofs.FaultLemmas.{asked-fault}
use Rattle.hack_prepare.proofs.MemberLemmas.{or_left, or_right, told-none, wanted-is}
use Rattle.hack_prepare.specs.Writes.{AreWrites, BeginWrites, MakesSome}
use Rattle.hack_prepare.proofs.OrderLemmas.{none-in-order}
use Rattle.hack_prepare.proofs.WriteLemmas.{begun_none}
use Rattle.hack_files.specs.Files.{Change}
use Rattle.hack_files.specs.Restore.{paths, registered_files}
use Rattle.hack_prepare.specs.EditSteps.{KeepsInOrder}
use Rattle.std.proofs.lemmas.Result.{err_from_is_err_and}
use Rattle.hack_prepare.proofs.prepare.prepare.Goals as goal

pub returns-then-not-is_asked-clause-told : goal.returns-then-not-is_asked-clause-told
returns-then-not-is_asked-clause-told g c =
    let cx = context_view c.args.cx.now in
    let drops = c.drops_dev-drops_dev.result in
    let private = c.args-args.result.now.no_private in
    let out : (drops || private) ≡ false = sym c.if-not-is_asked.ensures in
    let d : (wanted_in cx).drops_dev ≡ false = sym (c.drops_dev-drops_dev.ensures ∙ ap (λ (x : Args). x.no_dev_deps || x.remove_dev_deps) c.args-args.ensures) ∙ or_left drops private out in
    let n : (wanted_in cx).no_private ≡ false = sym (ap (λ (x : Args). x.no_private) c.args-args.ensures) ∙ or_right drops private out in
    ap (map note_of) c.new.ensures.items ∙ sym (told-none (wanted_in cx) (member_manifests_in cx) d n)

pub returns-clause-grows : goal.returns-clause-grows
returns-clause-grows g c = calls_grow (g.F.Files.failed c.args.files.now) (g.F.Files.failed c.edit.new.files) c.edit.result c.edit.ensures.counted

pub returns-clause-safe : goal.returns-clause-safe
returns-clause-safe g c = λ t e start holds h.
    let are = ap (map member_manifest_view) c.as_slice.ensures.value ∙ c.in_ok-members.ensures in
    c.edit.ensures.step.safe t e start (subst (λ (l : List MemberManifest). HoldTexts start l) (sym are) holds) h

pub returns-clause-keeps : goal.returns-clause-keeps
returns-clause-keeps g c = λ t e start holds free.
    let are = ap (map member_manifest_view) c.as_slice.ensures.value ∙ c.in_ok-members.ensures in
    c.edit.ensures.step.keeps t e start (subst (λ (l : List MemberManifest). HoldTexts start l) (sym are) holds) free

pub returns-clause-kept : goal.returns-clause-kept
returns-clause-kept g c =
    let cx = context_view c.args.cx.now in
    let are = ap (map member_manifest_view) c.as_slice.ensures.value ∙ c.in_ok-members.ensures in
    let is = wanted-is cx c.args-args.result.now c.drops_dev-drops_dev.result c.workspace_root-folder.result.now c.as_str.result.now c.as_str-2.result.now c.args-args.ensures c.drops_dev-drops_dev.ensures
    c.workspace_root-folder.ensures (c.as_str.ensures.value ∙ c.in_ok-root.ensures) (c.as_str-2.ensures.value ∙ c.in_ok-lockfile.ensures) in
    let old = g.F.Files.bytes_at c.args.files.now in
    let new = g.F.Files.bytes_at c.edit.new.files in
    let asked : edits (wanted_in cx) ≡ true = ap (λ (w : Wanted). w.drops_dev || w.no_private) (sym is) ∙ sym c.if-not-is_asked.ensures in
    let step = subst (λ (l : List MemberManifest). IsStep g.F.Files.tells (λ s. HoldTexts s l) (IsTouched (wanted_in cx) l) c.args.manager.now c.edit.new.manager old new) are
    (subst (λ (w : Wanted). IsStep g.F.Files.tells (λ s. HoldTexts s (members_view c.as_slice.result.now)) (IsTouched w (members_view c.as_slice.result.now)) c.args.manager.now c.edit.new.manager old new) is c.edit.ensures.step) in
    λ q took. elim (step.kept q took) [ inl before ↦ inl before | inr now ↦ inr (asked, now) ]

pub returns-clause-edited : goal.returns-clause-edited
returns-clause-edited g c =
    let cx = context_view c.args.cx.now in
    let are = ap (map member_manifest_view) c.as_slice.ensures.value ∙ c.in_ok-members.ensures in
    let is = wanted-is cx c.args-args.result.now c.drops_dev-drops_dev.result c.workspace_root-folder.result.now c.as_str.result.now c.as_str-2.result.now c.args-args.ensures c.drops_dev-drops_dev.ensures
    c.workspace_root-folder.ensures (c.as_str.ensures.value ∙ c.in_ok-root.ensures) (c.as_str-2.ensures.value ∙ c.in_ok-lockfile.ensures) in
    let old = g.F.Files.bytes_at c.args.files.now in
    let new = g.F.Files.bytes_at c.edit.new.files in
    subst (λ (l : List MemberManifest). (g.F.Files.tells → HoldTexts old l → IsPartlyPrepared (wanted_in cx) l (WriteFails (g.F.Files.refuses c.args.files.now c.edit.new.files) (g.F.Files.failed c.args.files.now) (g.F.Files.failed c.edit.new.files)) old new)) are
    (subst (λ (w : Wanted). (g.F.Files.tells → HoldTexts old (members_view c.as_slice.result.now) → IsPartlyPrepared w (members_view c.as_slice.result.now) (WriteFails (g.F.Files.refuses c.args.files.now c.edit.new.files) (g.F.Files.failed c.args.files.now) (g.F.Files.failed c.edit.new.files)) old new)) is c.edit.ensures.edited)

pub returns-clause-others : goal.returns-clause-others
returns-clause-others g c =
    let cx = context_view c.args.cx.now in
    let are = ap (map member_manifest_view) c.as_slice.ensures.value ∙ c.in_ok-members.ensures in
    let is = wanted-is cx c.args-args.result.now c.drops_dev-drops_dev.result c.workspace_root-folder.result.now c.as_str.result.now c.as_str-2.result.now c.args-args.ensures c.drops_dev-drops_dev.ensures
    c.workspace_root-folder.ensures (c.as_str.ensures.value ∙ c.in_ok-root.ensures) (c.as_str-2.ensures.value ∙ c.in_ok-lockfile.ensures) in
    let old = g.F.Files.bytes_at c.args.files.now in
    let new = g.F.Files.bytes_at c.edit.new.files in
    subst (λ (l : List MemberManifest). (g.F.Files.tells → KeepsUnedited (wanted_in cx) l old new)) are
    (subst (λ (w : Wanted). (g.F.Files.tells → KeepsUnedited w (members_view c.as_slice.result.now) old new)) is c.edit.ensures.others)

pub returns-clause-told : goal.returns-clause-told
returns-clause-told g c =
    let cx = context_view c.args.cx.now in
    let are = ap (map member_manifest_view) c.as_slice.ensures.value ∙ c.in_ok-members.ensures in
    let is = wanted-is cx c.args-args.result.now c.drops_dev-drops_dev.result c.workspace_root-folder.result.now c.as_str.result.now c.as_str-2.result.now c.args-args.ensures c.drops_dev-drops_dev.ensures
    c.workspace_root-folder.ensures (c.as_str.ensures.value ∙ c.in_ok-root.ensures) (c.as_str-2.ensures.value ∙ c.in_ok-lockfile.ensures) in
    subst (λ (l : List MemberManifest). IfOk c.edit.result (λ told. map note_of told.items ≡ notes (wanted_in cx) l)) are
    (subst (λ (w : Wanted). IfOk c.edit.result (λ told. map note_of told.items ≡ notes w (members_view c.as_slice.result.now))) is c.edit.ensures.told)

pub returns-clause-err : goal.returns-clause-err
returns-clause-err g c =
    let cx = context_view c.args.cx.now in
    let are = ap (map member_manifest_view) c.as_slice.ensures.value ∙ c.in_ok-members.ensures in
    let is = wanted-is cx c.args-args.result.now c.drops_dev-drops_dev.result c.workspace_root-folder.result.now c.as_str.result.now c.as_str-2.result.now c.args-args.ensures c.drops_dev-drops_dev.ensures
    c.workspace_root-folder.ensures (c.as_str.ensures.value ∙ c.in_ok-root.ensures) (c.as_str-2.ensures.value ∙ c.in_ok-lockfile.ensures) in
    let old = g.F.Files.bytes_at c.args.files.now in
    let asked : edits (wanted_in cx) ≡ true = ap (λ (w : Wanted). w.drops_dev || w.no_private) (sym is) ∙ sym c.if-not-is_asked.ensures in
    asked-fault g.F.Files.tells cx old c.edit.result asked
    (subst (λ (l : List MemberManifest). IfErr c.edit.result (IsEditsFault (wanted_in cx) l g.F.Files.tells old)) are
    (subst (λ (w : Wanted). IfErr c.edit.result (IsEditsFault w (members_view c.as_slice.result.now) g.F.Files.tells old)) is c.edit.ensures.err))

pub returns-clause-calls : goal.returns-clause-calls
returns-clause-calls g c =
    let cx = context_view c.args.cx.now in
    let are = ap (map member_manifest_view) c.as_slice.ensures.value ∙ c.in_ok-members.ensures in
    let is = wanted-is cx c.args-args.result.now c.drops_dev-drops_dev.result c.workspace_root-folder.result.now c.as_str.result.now c.as_str-2.result.now c.args-args.ensures c.drops_dev-drops_dev.ensures
    c.workspace_root-folder.ensures (c.as_str.ensures.value ∙ c.in_ok-root.ensures) (c.as_str-2.ensures.value ∙ c.in_ok-lockfile.ensures) in
    let old = g.F.Files.bytes_at c.args.files.now in
    let asked : edits (wanted_in cx) ≡ true = ap (λ (w : Wanted). w.drops_dev || w.no_private) (sym is) ∙ sym c.if-not-is_asked.ensures in
    let calls : Wanted → List MemberManifest → Type 0 = λ w l. FailsOnlySo g.F.Files (IsAbsent g.F.Files.tells old (IsReadRoot w l)) (IsLookedAt w l) (IsEdited w l) c.args.files.now c.edit.new.files c.edit.result in
    asked-calls g.F.Files cx c.edit.result c.args.files.now c.edit.new.files asked
    (subst (λ (l : List MemberManifest). calls (wanted_in cx) l) are (subst (λ (w : Wanted). calls w (members_view c.as_slice.result.now)) is c.edit.ensures.calls))

pub returns-clause-traced : goal.returns-clause-traced
returns-clause-traced g c =
    let cx = context_view c.args.cx.now in
    let are = ap (map member_manifest_view) c.as_slice.ensures.value ∙ c.in_ok-members.ensures in
    let is = wanted-is cx c.args-args.result.now c.drops_dev-drops_dev.result c.workspace_root-folder.result.now c.as_str.result.now c.as_str-2.result.now c.args-args.ensures c.drops_dev-drops_dev.ensures
    c.workspace_root-folder.ensures (c.as_str.ensures.value ∙ c.in_ok-root.ensures) (c.as_str-2.ensures.value ∙ c.in_ok-lockfile.ensures) in
    let old = g.F.Files.bytes_at c.args.files.now in
    let new = g.F.Files.bytes_at c.edit.new.files in
    let before = paths (registered_files c.args.manager.now) in
    let after = paths (registered_files c.edit.new.manager) in
    let in_order : Wanted → List Change → Type 0 = λ w made. c.args.manager.now.needs_restore ≡ true → KeepsInOrder w.lockfile made before after in
    subst (λ (l : List MemberManifest). OnOk c.edit.result (g.F.Files.whole → MakesSome (λ made. AreWrites g.F.Files.tells (wanted_in cx) l old made × in_order (wanted_in cx) made) (g.F.Files.trace c.args.files.now) (g.F.Files.trace c.edit.new.files) old new)) are
    (subst (λ (w : Wanted). OnOk c.edit.result (g.F.Files.whole → MakesSome (λ made. AreWrites g.F.Files.tells w (members_view c.as_slice.result.now) old made × in_order w made) (g.F.Files.trace c.args.files.now) (g.F.Files.trace c.edit.new.files) old new)) is c.edit.ensures.traced)

pub returns-clause-refused : goal.returns-clause-refused
returns-clause-refused g c =
    let cx = context_view c.args.cx.now in
    let are = ap (map member_manifest_view) c.as_slice.ensures.value ∙ c.in_ok-members.ensures in
    let is = wanted-is cx c.args-args.result.now c.drops_dev-drops_dev.result c.workspace_root-folder.result.now c.as_str.result.now c.as_str-2.result.now c.args-args.ensures c.drops_dev-drops_dev.ensures
    c.workspace_root-folder.ensures (c.as_str.ensures.value ∙ c.in_ok-root.ensures) (c.as_str-2.ensures.value ∙ c.in_ok-lockfile.ensures) in
    let old = g.F.Files.bytes_at c.args.files.now in
    let new = g.F.Files.bytes_at c.edit.new.files in
    subst (λ (l : List MemberManifest). OnErr c.edit.result (g.F.Files.whole → MakesSome (BeginWrites g.F.Files.tells (wanted_in cx) l old) (g.F.Files.trace c.args.files.now) (g.F.Files.trace c.edit.new.files) old new)) are
    (subst (λ (w : Wanted). OnErr c.edit.result (g.F.Files.whole → MakesSome (BeginWrites g.F.Files.tells w (members_view c.as_slice.result.now) old) (g.F.Files.trace c.args.files.now) (g.F.Files.trace c.edit.new.files) old new)) is c.edit.ensures.refused)

pub returns-clause-spared : goal.returns-clause-spared
returns-clause-spared g c =
    let cx = context_view c.args.cx.now in
    let are = ap (map member_manifest_view) c.as_slice.ensures.value ∙ c.in_ok-members.ensures in
    let is = wanted-is cx c.args-args.result.now c.drops_dev-drops_dev.result c.workspace_root-folder.result.now c.as_str.result.now c.as_str-2.result.now c.args-args.ensures c.drops_dev-drops_dev.ensures
    c.workspace_root-folder.ensures (c.as_str.ensures.value ∙ c.in_ok-root.ensures) (c.as_str-2.ensures.value ∙ c.in_ok-lockfile.ensures) in
    let old = g.F.Files.bytes_at c.args.files.now in
    let new = g.F.Files.bytes_at c.edit.new.files in
    subst (λ (l : List MemberManifest). IfErr c.edit.result (AtWrite (λ p. g.F.Files.tells → HoldTexts old l → IsPartlyPrepared (wanted_in cx) l (λ q. q ≡ p) old new))) are
    (subst (λ (w : Wanted). IfErr c.edit.result (AtWrite (λ p. g.F.Files.tells → HoldTexts old (members_view c.as_slice.result.now) → IsPartlyPrepared w (members_view c.as_slice.result.now) (λ q. q ≡ p) old new))) is c.edit.ensures.spared)

pub returns-then-not-is_asked-clause-traced : goal.returns-then-not-is_asked-clause-traced
returns-then-not-is_asked-clause-traced g c = λ y.
    let cx = context_view c.args.cx.now in
    let drops = c.drops_dev-drops_dev.result in
    let private = c.args-args.result.now.no_private in
    let out : (drops || private) ≡ false = sym c.if-not-is_asked.ensures in
    let d : (wanted_in cx).drops_dev ≡ false = sym (c.drops_dev-drops_dev.ensures ∙ ap (λ (x : Args). x.no_dev_deps || x.remove_dev_deps) c.args-args.ensures) ∙ or_left drops private out in
    let n : (wanted_in cx).no_private ≡ false = sym (ap (λ (x : Args). x.no_private) c.args-args.ensures) ∙ or_right drops private out in
    none-in-order g.F.Files.tells (wanted_in cx) (member_manifests_in cx) (g.F.Files.bytes_at c.args.files.now) c.args.manager.now (g.F.Files.trace c.args.files.now) d n

pub returns-in_err-root-clause-refused : goal.returns-in_err-root-clause-refused
returns-in_err-root-clause-refused g c =
    let p = err_from_is_err_and c.from_residual.result c.from_residual.ensures.1 in
    rw p.1 (begun_none g.F.Files.whole g.F.Files.tells (wanted_in (context_view c.args.cx.now)) (member_manifests_in (context_view c.args.cx.now)) (g.F.Files.bytes_at c.args.files.now) (g.F.Files.trace c.args.files.now) (g.F.Files.bytes_at c.args.files.now))

pub returns-in_err-lockfile-clause-refused : goal.returns-in_err-lockfile-clause-refused
returns-in_err-lockfile-clause-refused g c =
    let p = err_from_is_err_and c.from_residual-in_err-lockfile.result c.from_residual-in_err-lockfile.ensures.1 in
    rw p.1 (begun_none g.F.Files.whole g.F.Files.tells (wanted_in (context_view c.args.cx.now)) (member_manifests_in (context_view c.args.cx.now)) (g.F.Files.bytes_at c.args.files.now) (g.F.Files.trace c.args.files.now) (g.F.Files.bytes_at c.args.files.now))

pub returns-in_err-members-clause-refused : goal.returns-in_err-members-clause-refused
returns-in_err-members-clause-refused g c =
    let p = err_from_is_err_and c.from_residual-in_err-members.result c.from_residual-in_err-members.ensures.1 in
    rw p.1 (begun_none g.F.Files.whole g.F.Files.tells (wanted_in (context_view c.args.cx.now)) (member_manifests_in (context_view c.args.cx.now)) (g.F.Files.bytes_at c.args.files.now) (g.F.Files.trace c.args.files.now) (g.F.Files.bytes_at c.args.files.now))
