use Rattle.std.proofs.Common.{◌≡◌, ◌∙◌, true, IfSome, ap, sym, subst, inl, inr}
use Rattle.std.proofs.lemmas.Result.{err_from_is_err_and}
use Rattle.hack_prepare.specs.FailureCounts.{WriteFails}
use Rattle.hack_files.specs.Restore.{is_kept, registered_files}
use Rattle.hack_base.specs.Names.{names_behind}
use Rattle.hack_prepare.specs.PreparedView.{wanted_view}
use Rattle.hack_prepare.specs.Internal.{members_view, ArePartlyTurned, IsAlonePath, Nowhere, Only}
use Rattle.hack_prepare.proofs.CountLemmas.{fault_then, none_then, write_then}
use Rattle.hack_prepare.proofs.FailedLemmas.{calls-on, failed-on, fault-wider, root-calls}
use Rattle.hack_prepare.specs.FailedCalls.{IsAbsent}
use Rattle.hack_prepare.specs.Paths.{IsEdited, IsLookedAt, IsReadRoot}
use Rattle.hack_prepare.proofs.FaultLemmas.{alone-edited, at-any, at-wider, root-spared, lock-among, members-among, root-among}
use Rattle.hack_prepare.proofs.EditLemmas.{members-step, root-step, lock-step}
use Rattle.hack_prepare.proofs.RootLemmas.{partly-all, partly-members, partly-root, prepared, unedited, unedited-apart}
use Rattle.hack_prepare.specs.Prepared.{HoldTexts, IsPartlyPrepared}
use Rattle.hack_prepare.specs.Writes.{AreWrites, BeginDevWrites, BeginWrites}
use Rattle.hack_prepare.proofs.OrderLemmas.{made-in-order}
use Rattle.hack_prepare.proofs.WriteLemmas.{all-made, made-still, root-begun, some-made}
use Rattle.hack_prepare.proofs.prepare.edit.Goals as goal

pub returns-in_err-gone-clause-step : goal.returns-in_err-gone-clause-step
returns-in_err-gone-clause-step g c =
    members-step g.F.Files.tells (wanted_view c.args.wanted.now) (members_view c.args.members.now) c.args.manager.now c.edit_members.new.manager
    (g.F.Files.bytes_at c.args.files.now) (g.F.Files.bytes_at c.edit_members.new.files) c.edit_members.ensures.step

pub returns-in_err-gone-clause-edited : goal.returns-in_err-gone-clause-edited
returns-in_err-gone-clause-edited g c =
    λ t holds. partly-members (wanted_view c.args.wanted.now) (members_view c.args.members.now) (WriteFails (g.F.Files.refuses c.args.files.now c.edit_members.new.files) (g.F.Files.failed c.args.files.now) (g.F.Files.failed c.edit_members.new.files))
    (g.F.Files.bytes_at c.args.files.now) (g.F.Files.bytes_at c.edit_members.new.files) holds (c.edit_members.ensures.others t) (c.edit_members.ensures.partly t holds)

pub returns-in_err-gone-clause-others : goal.returns-in_err-gone-clause-others
returns-in_err-gone-clause-others g c =
    λ t. unedited-apart (wanted_view c.args.wanted.now) (members_view c.args.members.now)
    (g.F.Files.bytes_at c.args.files.now) (g.F.Files.bytes_at c.edit_members.new.files) (c.edit_members.ensures.others t)

pub returns-in_err-gone-clause-err : goal.returns-in_err-gone-clause-err
returns-in_err-gone-clause-err g c =
    let p = err_from_is_err_and c.from_residual.result c.from_residual.ensures.1 in
    rw (p.1, p.2) (members-among g.F.Files.tells (wanted_view c.args.wanted.now) (members_view c.args.members.now) (g.F.Files.bytes_at c.args.files.now) _ c.in_err-gone.ensures.err)

pub returns-in_err-edit_root-clause-counted : goal.returns-in_err-edit_root-clause-counted
returns-in_err-edit_root-clause-counted g c =
    let p = err_from_is_err_and c.from_residual-in_err-edit_root.result c.from_residual-in_err-edit_root.ensures.1 in
    rw (p.1, p.2) (fault_then (g.F.Files.failed c.args.files.now) (g.F.Files.failed c.edit_members.new.files) (g.F.Files.failed c.edit_root.new.files) _ c.in_ok-gone.ensures.counted c.in_err-edit_root.ensures.counted)

pub returns-in_err-gone-clause-calls : goal.returns-in_err-gone-clause-calls
returns-in_err-gone-clause-calls g c =
    let p = err_from_is_err_and c.from_residual.result c.from_residual.ensures.1 in
    let w = wanted_view c.args.wanted.now in
    let ms = members_view c.args.members.now in
    rw (p.1, p.2) (fault-wider g.F.Files Nowhere (IsAbsent g.F.Files.tells (g.F.Files.bytes_at c.args.files.now) (IsReadRoot w ms)) Nowhere (IsLookedAt w ms) (IsAlonePath w ms) (IsEdited w ms) _ c.args.files.now c.edit_members.new.files
    (λ q h. absurd h) (λ q h. absurd h) (alone-edited w ms) c.in_err-gone.ensures.calls)

pub returns-in_err-edit_root-clause-calls : goal.returns-in_err-edit_root-clause-calls
returns-in_err-edit_root-clause-calls g c =
    let p = err_from_is_err_and c.from_residual-in_err-edit_root.result c.from_residual-in_err-edit_root.ensures.1 in
    rw (p.1, p.2) (root-calls g.F.Files (wanted_view c.args.wanted.now) (members_view c.args.members.now) (g.F.Files.bytes_at c.args.files.now) (g.F.Files.bytes_at c.edit_members.new.files) _ c.args.files.now c.edit_members.new.files c.edit_root.new.files
    c.edit_members.ensures.others c.in_ok-gone.ensures.calls c.in_err-edit_root.ensures.calls)

pub returns-in_err-keep_lockfile-clause-calls : goal.returns-in_err-keep_lockfile-clause-calls
returns-in_err-keep_lockfile-clause-calls g c =
    let p = err_from_is_err_and c.from_residual-in_err-keep_lockfile.result c.from_residual-in_err-keep_lockfile.ensures.1 in
    let w = wanted_view c.args.wanted.now in
    let ms = members_view c.args.members.now in
    let absent = IsAbsent g.F.Files.tells (g.F.Files.bytes_at c.args.files.now) (IsReadRoot w ms) in
    rw (p.1, p.2) (failed-on g.F.Files absent (IsLookedAt w ms) (IsEdited w ms) _ c.args.files.now c.edit_root.new.files c.keep_lockfile.new.files
    (calls-on g.F.Files c.args.files.now c.edit_members.new.files c.edit_root.new.files c.in_ok-gone.ensures.calls c.in_ok-edit_root.ensures.calls)
    (fault-wider g.F.Files Nowhere absent (Only w.lockfile) (IsLookedAt w ms) Nowhere (IsEdited w ms) _ c.edit_root.new.files c.keep_lockfile.new.files (λ q h. absurd h) (λ q h. inr h) (λ q h. absurd h) c.in_err-keep_lockfile.ensures.calls))

pub returns-clause-calls : goal.returns-clause-calls
returns-clause-calls g c =
    calls-on g.F.Files c.args.files.now c.edit_root.new.files c.keep_lockfile.new.files
    (calls-on g.F.Files c.args.files.now c.edit_members.new.files c.edit_root.new.files c.in_ok-gone.ensures.calls c.in_ok-edit_root.ensures.calls) c.in_ok-keep_lockfile.ensures.calls

pub returns-in_err-edit_root-clause-step : goal.returns-in_err-edit_root-clause-step
returns-in_err-edit_root-clause-step g c =
    root-step g.F.Files.tells (wanted_view c.args.wanted.now) (members_view c.args.members.now) c.args.manager.now c.edit_members.new.manager c.edit_root.new.manager
    (g.F.Files.bytes_at c.args.files.now) (g.F.Files.bytes_at c.edit_members.new.files) (g.F.Files.bytes_at c.edit_root.new.files) c.edit_members.ensures.step c.edit_root.ensures.step

pub returns-in_err-edit_root-clause-edited : goal.returns-in_err-edit_root-clause-edited
returns-in_err-edit_root-clause-edited g c =
    λ t holds. partly-root (wanted_view c.args.wanted.now) (members_view c.args.members.now) (names_behind c.as_slice.result.now)
    (WriteFails (g.F.Files.refuses c.edit_members.new.files c.edit_root.new.files) (g.F.Files.failed c.edit_members.new.files) (g.F.Files.failed c.edit_root.new.files) c.args.wanted.now.root.now) (WriteFails (g.F.Files.refuses c.args.files.now c.edit_root.new.files) (g.F.Files.failed c.args.files.now) (g.F.Files.failed c.edit_root.new.files))
    (g.F.Files.bytes_at c.args.files.now) (g.F.Files.bytes_at c.edit_members.new.files) (g.F.Files.bytes_at c.edit_root.new.files)
    (ap names_behind c.as_slice.ensures.value ∙ c.in_ok-gone.ensures.gone) holds (c.in_ok-gone.ensures.turned t holds) (c.edit_members.ensures.others t) (c.edit_root.ensures.others t)
    (write_then (g.F.Files.refuses c.args.files.now c.edit_members.new.files) (g.F.Files.refuses c.edit_members.new.files c.edit_root.new.files) (g.F.Files.refuses c.args.files.now c.edit_root.new.files) (g.F.Files.failed c.args.files.now) (g.F.Files.failed c.edit_members.new.files) (g.F.Files.failed c.edit_root.new.files) c.args.wanted.now.root.now
    (λ ps qs one other. g.F.Files.refuses_more _ _ _ ps qs one other) c.in_ok-gone.ensures.counted c.in_ok-gone.ensures.refused_none) (c.edit_root.ensures.partly t)

pub returns-in_err-edit_root-clause-others : goal.returns-in_err-edit_root-clause-others
returns-in_err-edit_root-clause-others g c =
    λ t. unedited (wanted_view c.args.wanted.now) (members_view c.args.members.now)
    (g.F.Files.bytes_at c.args.files.now) (g.F.Files.bytes_at c.edit_members.new.files) (g.F.Files.bytes_at c.edit_root.new.files) (c.edit_members.ensures.others t) (c.edit_root.ensures.others t)

pub returns-in_err-edit_root-clause-err : goal.returns-in_err-edit_root-clause-err
returns-in_err-edit_root-clause-err g c =
    let p = err_from_is_err_and c.from_residual-in_err-edit_root.result c.from_residual-in_err-edit_root.ensures.1 in
    rw (p.1, p.2) (root-among g.F.Files.tells (wanted_view c.args.wanted.now) (members_view c.args.members.now) (g.F.Files.bytes_at c.args.files.now) (g.F.Files.bytes_at c.edit_members.new.files) _ c.edit_members.ensures.others c.in_err-edit_root.ensures.err)

pub returns-in_err-keep_lockfile-clause-stays : goal.returns-in_err-keep_lockfile-clause-stays
returns-in_err-keep_lockfile-clause-stays g c =
    g.F.Files.stays_more _ _ _ c.edit_members.ensures.stays (g.F.Files.stays_more _ _ _ c.edit_root.ensures.stays c.keep_lockfile.ensures.stays)

pub returns-in_err-keep_lockfile-clause-counted : goal.returns-in_err-keep_lockfile-clause-counted
returns-in_err-keep_lockfile-clause-counted g c =
    let p = err_from_is_err_and c.from_residual-in_err-keep_lockfile.result c.from_residual-in_err-keep_lockfile.ensures.1 in
    rw (p.1, p.2) (fault_then (g.F.Files.failed c.args.files.now) (g.F.Files.failed c.edit_root.new.files) (g.F.Files.failed c.keep_lockfile.new.files) _
    (none_then 0 (g.F.Files.failed c.args.files.now) (g.F.Files.failed c.edit_members.new.files) (g.F.Files.failed c.edit_root.new.files) c.in_ok-gone.ensures.counted c.in_ok-edit_root.ensures.counted) c.in_err-keep_lockfile.ensures.counted)

pub returns-in_err-keep_lockfile-clause-step : goal.returns-in_err-keep_lockfile-clause-step
returns-in_err-keep_lockfile-clause-step g c =
    lock-step g.F.Files.tells (wanted_view c.args.wanted.now) (members_view c.args.members.now) c.args.manager.now c.edit_members.new.manager c.edit_root.new.manager c.keep_lockfile.new.manager
    (g.F.Files.bytes_at c.args.files.now) (g.F.Files.bytes_at c.edit_members.new.files) (g.F.Files.bytes_at c.edit_root.new.files) (g.F.Files.bytes_at c.keep_lockfile.new.files)
    c.edit_members.ensures.step c.edit_root.ensures.step c.keep_lockfile.ensures.step

pub returns-in_err-keep_lockfile-clause-edited : goal.returns-in_err-keep_lockfile-clause-edited
returns-in_err-keep_lockfile-clause-edited g c =
    λ t holds. partly-all (wanted_view c.args.wanted.now) (members_view c.args.members.now) (WriteFails (g.F.Files.refuses c.args.files.now c.keep_lockfile.new.files) (g.F.Files.failed c.args.files.now) (g.F.Files.failed c.keep_lockfile.new.files)) (g.F.Files.bytes_at c.args.files.now) (g.F.Files.bytes_at c.keep_lockfile.new.files)
    (prepared (wanted_view c.args.wanted.now) (members_view c.args.members.now) (names_behind c.as_slice.result.now)
    (g.F.Files.bytes_at c.args.files.now) (g.F.Files.bytes_at c.edit_members.new.files) (g.F.Files.bytes_at c.edit_root.new.files) (g.F.Files.bytes_at c.keep_lockfile.new.files)
    (ap names_behind c.as_slice.ensures.value ∙ c.in_ok-gone.ensures.gone) holds (c.in_ok-gone.ensures.turned t holds) (c.edit_members.ensures.others t)
    (c.in_ok-edit_root.ensures.edited t) (c.edit_root.ensures.others t) (c.keep_lockfile.ensures.same t))

pub returns-in_err-keep_lockfile-clause-others : goal.returns-in_err-keep_lockfile-clause-others
returns-in_err-keep_lockfile-clause-others g c =
    λ t q free. c.keep_lockfile.ensures.same t q ∙ unedited (wanted_view c.args.wanted.now) (members_view c.args.members.now)
    (g.F.Files.bytes_at c.args.files.now) (g.F.Files.bytes_at c.edit_members.new.files) (g.F.Files.bytes_at c.edit_root.new.files) (c.edit_members.ensures.others t) (c.edit_root.ensures.others t) q free

pub returns-in_err-keep_lockfile-clause-err : goal.returns-in_err-keep_lockfile-clause-err
returns-in_err-keep_lockfile-clause-err g c =
    let p = err_from_is_err_and c.from_residual-in_err-keep_lockfile.result c.from_residual-in_err-keep_lockfile.ensures.1 in
    rw (p.1, p.2) (lock-among g.F.Files.tells (wanted_view c.args.wanted.now) (members_view c.args.members.now) (g.F.Files.bytes_at c.args.files.now) _ c.in_err-keep_lockfile.ensures.err)

pub returns-clause-stays : goal.returns-clause-stays
returns-clause-stays g c =
    g.F.Files.stays_more _ _ _ c.edit_members.ensures.stays (g.F.Files.stays_more _ _ _ c.edit_root.ensures.stays c.keep_lockfile.ensures.stays)

pub returns-clause-counted : goal.returns-clause-counted
returns-clause-counted g c =
    none_then 0 (g.F.Files.failed c.args.files.now) (g.F.Files.failed c.edit_root.new.files) (g.F.Files.failed c.keep_lockfile.new.files)
    (none_then 0 (g.F.Files.failed c.args.files.now) (g.F.Files.failed c.edit_members.new.files) (g.F.Files.failed c.edit_root.new.files) c.in_ok-gone.ensures.counted c.in_ok-edit_root.ensures.counted) c.in_ok-keep_lockfile.ensures.counted

pub returns-clause-step : goal.returns-clause-step
returns-clause-step g c =
    lock-step g.F.Files.tells (wanted_view c.args.wanted.now) (members_view c.args.members.now) c.args.manager.now c.edit_members.new.manager c.edit_root.new.manager c.keep_lockfile.new.manager
    (g.F.Files.bytes_at c.args.files.now) (g.F.Files.bytes_at c.edit_members.new.files) (g.F.Files.bytes_at c.edit_root.new.files) (g.F.Files.bytes_at c.keep_lockfile.new.files)
    c.edit_members.ensures.step c.edit_root.ensures.step c.keep_lockfile.ensures.step

pub returns-clause-prepared : goal.returns-clause-prepared
returns-clause-prepared g c =
    λ t holds. prepared (wanted_view c.args.wanted.now) (members_view c.args.members.now) (names_behind c.as_slice.result.now)
    (g.F.Files.bytes_at c.args.files.now) (g.F.Files.bytes_at c.edit_members.new.files) (g.F.Files.bytes_at c.edit_root.new.files) (g.F.Files.bytes_at c.keep_lockfile.new.files)
    (ap names_behind c.as_slice.ensures.value ∙ c.in_ok-gone.ensures.gone) holds (c.in_ok-gone.ensures.turned t holds) (c.edit_members.ensures.others t)
    (c.in_ok-edit_root.ensures.edited t) (c.edit_root.ensures.others t) (c.keep_lockfile.ensures.same t)

pub returns-clause-edited : goal.returns-clause-edited
returns-clause-edited g c =
    λ t holds. partly-all (wanted_view c.args.wanted.now) (members_view c.args.members.now) (WriteFails (g.F.Files.refuses c.args.files.now c.keep_lockfile.new.files) (g.F.Files.failed c.args.files.now) (g.F.Files.failed c.keep_lockfile.new.files)) (g.F.Files.bytes_at c.args.files.now) (g.F.Files.bytes_at c.keep_lockfile.new.files)
    (prepared (wanted_view c.args.wanted.now) (members_view c.args.members.now) (names_behind c.as_slice.result.now)
    (g.F.Files.bytes_at c.args.files.now) (g.F.Files.bytes_at c.edit_members.new.files) (g.F.Files.bytes_at c.edit_root.new.files) (g.F.Files.bytes_at c.keep_lockfile.new.files)
    (ap names_behind c.as_slice.ensures.value ∙ c.in_ok-gone.ensures.gone) holds (c.in_ok-gone.ensures.turned t holds) (c.edit_members.ensures.others t)
    (c.in_ok-edit_root.ensures.edited t) (c.edit_root.ensures.others t) (c.keep_lockfile.ensures.same t))

pub returns-clause-others : goal.returns-clause-others
returns-clause-others g c =
    λ t q free. c.keep_lockfile.ensures.same t q ∙ unedited (wanted_view c.args.wanted.now) (members_view c.args.members.now)
    (g.F.Files.bytes_at c.args.files.now) (g.F.Files.bytes_at c.edit_members.new.files) (g.F.Files.bytes_at c.edit_root.new.files) (c.edit_members.ensures.others t) (c.edit_root.ensures.others t) q free

pub returns-clause-lockfile : goal.returns-clause-lockfile
returns-clause-lockfile g c =
    λ t e.
    let path = c.args.wanted.now.lockfile.now in
    subst (λ o. IfSome o (λ _. is_kept (registered_files c.keep_lockfile.new.manager) path ≡ true)) (sym (c.keep_lockfile.ensures.same t path))
    (c.in_ok-keep_lockfile.ensures.kept t (c.edit_root.ensures.step.needs ∙ c.edit_members.ensures.step.needs ∙ e))

pub returns-in_err-gone-clause-refused : goal.returns-in_err-gone-clause-refused
returns-in_err-gone-clause-refused g c =
    let p = err_from_is_err_and c.from_residual.result c.from_residual.ensures.1 in
    rw p.1 (λ y. some-made (BeginDevWrites (wanted_view c.args.wanted.now) (members_view c.args.members.now)) (BeginWrites g.F.Files.tells (wanted_view c.args.wanted.now) (members_view c.args.members.now) (g.F.Files.bytes_at c.args.files.now)) _ _ _ _ (λ made h. inl h) (c.in_err-gone.ensures.refused y))

pub returns-in_err-edit_root-clause-refused : goal.returns-in_err-edit_root-clause-refused
returns-in_err-edit_root-clause-refused g c =
    let p = err_from_is_err_and c.from_residual-in_err-edit_root.result c.from_residual-in_err-edit_root.ensures.1 in
    rw p.1 (λ y. root-begun g.F.Files.tells (wanted_view c.args.wanted.now) (members_view c.args.members.now) (g.F.Files.bytes_at c.args.files.now) (g.F.Files.bytes_at c.edit_members.new.files) (g.F.Files.bytes_at c.edit_root.new.files) (g.F.Files.trace c.args.files.now) (g.F.Files.trace c.edit_members.new.files) (g.F.Files.trace c.edit_root.new.files) c.edit_members.ensures.others (c.in_ok-gone.ensures.traced y) (c.in_err-edit_root.ensures.refused y))

pub returns-in_err-keep_lockfile-clause-refused : goal.returns-in_err-keep_lockfile-clause-refused
returns-in_err-keep_lockfile-clause-refused g c =
    let p = err_from_is_err_and c.from_residual-in_err-keep_lockfile.result c.from_residual-in_err-keep_lockfile.ensures.1 in
    rw p.1 (λ y.
    let made = all-made g.F.Files.tells (wanted_view c.args.wanted.now) (members_view c.args.members.now) (g.F.Files.bytes_at c.args.files.now) (g.F.Files.bytes_at c.edit_members.new.files) (g.F.Files.bytes_at c.edit_root.new.files) (g.F.Files.trace c.args.files.now) (g.F.Files.trace c.edit_members.new.files) (g.F.Files.trace c.edit_root.new.files) c.edit_members.ensures.others (c.in_ok-gone.ensures.traced y) (c.in_ok-edit_root.ensures.traced y) in
    let still = made-still _ _ _ _ _ _ _ made (c.keep_lockfile.ensures.untraced y) in
    some-made (AreWrites g.F.Files.tells (wanted_view c.args.wanted.now) (members_view c.args.members.now) (g.F.Files.bytes_at c.args.files.now)) (BeginWrites g.F.Files.tells (wanted_view c.args.wanted.now) (members_view c.args.members.now) (g.F.Files.bytes_at c.args.files.now)) _ _ _ _ (λ made h. inr h) still)

pub returns-clause-traced : goal.returns-clause-traced
returns-clause-traced g c = λ y.
    let made = all-made g.F.Files.tells (wanted_view c.args.wanted.now) (members_view c.args.members.now) (g.F.Files.bytes_at c.args.files.now) (g.F.Files.bytes_at c.edit_members.new.files) (g.F.Files.bytes_at c.edit_root.new.files) (g.F.Files.trace c.args.files.now) (g.F.Files.trace c.edit_members.new.files) (g.F.Files.trace c.edit_root.new.files) c.edit_members.ensures.others (c.in_ok-gone.ensures.traced y) (c.in_ok-edit_root.ensures.traced y) in
    let still = made-still _ _ _ _ _ _ _ made (c.keep_lockfile.ensures.untraced y) in
    made-in-order g.F.Files.tells (wanted_view c.args.wanted.now) (members_view c.args.members.now) (g.F.Files.bytes_at c.args.files.now) c.args.manager.now c.edit_members.new.manager c.edit_root.new.manager c.keep_lockfile.new.manager
    _ _ _ _ c.edit_members.ensures.step.needs c.edit_root.ensures.step.needs c.in_ok-gone.ensures.order c.in_ok-edit_root.ensures.order c.in_ok-keep_lockfile.ensures.order still

pub returns-in_err-gone-clause-spared : goal.returns-in_err-gone-clause-spared
returns-in_err-gone-clause-spared g c =
    let p = err_from_is_err_and c.from_residual.result c.from_residual.ensures.1 in
    rw (p.1, p.2) (at-wider (λ p. g.F.Files.tells → HoldTexts (g.F.Files.bytes_at c.args.files.now) (members_view c.args.members.now) → ArePartlyTurned (wanted_view c.args.wanted.now) (members_view c.args.members.now) (λ q. q ≡ p) (g.F.Files.bytes_at c.args.files.now) (g.F.Files.bytes_at c.edit_members.new.files)) (λ p. g.F.Files.tells → HoldTexts (g.F.Files.bytes_at c.args.files.now) (members_view c.args.members.now) → IsPartlyPrepared (wanted_view c.args.wanted.now) (members_view c.args.members.now) (λ q. q ≡ p) (g.F.Files.bytes_at c.args.files.now) (g.F.Files.bytes_at c.edit_members.new.files)) (λ p h t holds. partly-members (wanted_view c.args.wanted.now) (members_view c.args.members.now) (λ q. q ≡ p) (g.F.Files.bytes_at c.args.files.now) (g.F.Files.bytes_at c.edit_members.new.files) holds (c.edit_members.ensures.others t) (h t holds)) _ c.in_err-gone.ensures.spared)

pub returns-in_err-edit_root-clause-spared : goal.returns-in_err-edit_root-clause-spared
returns-in_err-edit_root-clause-spared g c =
    let p = err_from_is_err_and c.from_residual-in_err-edit_root.result c.from_residual-in_err-edit_root.ensures.1 in
    rw (p.1, p.2) (root-spared g.F.Files.tells (wanted_view c.args.wanted.now) (members_view c.args.members.now) (names_behind c.as_slice.result.now) (g.F.Files.bytes_at c.args.files.now) (g.F.Files.bytes_at c.edit_members.new.files) (g.F.Files.bytes_at c.edit_root.new.files) _
    (ap names_behind c.as_slice.ensures.value ∙ c.in_ok-gone.ensures.gone) c.in_ok-gone.ensures.turned c.edit_members.ensures.others c.edit_root.ensures.others c.in_err-edit_root.ensures.err)

pub returns-in_err-keep_lockfile-clause-spared : goal.returns-in_err-keep_lockfile-clause-spared
returns-in_err-keep_lockfile-clause-spared g c =
    let p = err_from_is_err_and c.from_residual-in_err-keep_lockfile.result c.from_residual-in_err-keep_lockfile.ensures.1 in
    rw (p.1, p.2) (at-any (λ p. g.F.Files.tells → HoldTexts (g.F.Files.bytes_at c.args.files.now) (members_view c.args.members.now) → IsPartlyPrepared (wanted_view c.args.wanted.now) (members_view c.args.members.now) (λ q. q ≡ p) (g.F.Files.bytes_at c.args.files.now) (g.F.Files.bytes_at c.keep_lockfile.new.files)) (λ p t holds. partly-all (wanted_view c.args.wanted.now) (members_view c.args.members.now) (λ q. q ≡ p) (g.F.Files.bytes_at c.args.files.now) (g.F.Files.bytes_at c.keep_lockfile.new.files)
    (prepared (wanted_view c.args.wanted.now) (members_view c.args.members.now) (names_behind c.as_slice.result.now) (g.F.Files.bytes_at c.args.files.now) (g.F.Files.bytes_at c.edit_members.new.files) (g.F.Files.bytes_at c.edit_root.new.files) (g.F.Files.bytes_at c.keep_lockfile.new.files)
    (ap names_behind c.as_slice.ensures.value ∙ c.in_ok-gone.ensures.gone) holds (c.in_ok-gone.ensures.turned t holds) (c.edit_members.ensures.others t)
    (c.in_ok-edit_root.ensures.edited t) (c.edit_root.ensures.others t) (c.keep_lockfile.ensures.same t))) _)
