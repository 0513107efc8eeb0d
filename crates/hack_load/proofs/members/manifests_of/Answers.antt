use Rattle.std.proofs.Common.{◌<◌, List, [], inl, inr, sym, subst, length, get_or, rules}
use Rattle.std.proofs.lemmas.Result.{err_from_is_err_and}
use Rattle.hack_metadata.proofs.KnownLemmas.{member-below}
use Rattle.hack_metadata.specs.RecordViews.{nodes_view}
use Rattle.hack_metadata.specs.MetadataView.{metadata_view}
use Rattle.hack_metadata.specs.declared.metadata.resolve.PackageId.{PackageId}
use Rattle.hack_load.specs.CargoQuestions.{IsOfMember, IsPackageFault}
use Rattle.hack_files.specs.TraceLaws.{makes_still}
use Rattle.hack_load.proofs.LeaveLemmas.{may-more, whole-more}
use Rattle.hack_load.proofs.MemberLemmas.{each-more, fault-earlier, id-contained, of-earlier}
use Rattle.hack_files.proofs.FailedLemmas.{none_then}
use Rattle.hack_load.specs.FailedLoads.{IsManifestAt, IsMemberPath, IsOfReadAt}
use Rattle.hack_load.proofs.FailedLemmas.{reads-then}
use Rattle.hack_load.proofs.members.manifests_of.Goals as goal

pub manifest_of-requires : goal.manifest_of-requires
manifest_of-requires g c =
    let m = c.args.metadata.now in
    let is = c.deref-id-items.ensures.value in
    subst (λ (xs : List PackageId). (get_or xs c.loop-id.id-index (record { index = 0 })).index < length m.packages.items) (sym is)
    (member-below (length m.packages.items) m.workspace_members.items (nodes_view m.resolve.nodes) c.loop-id.id-index (record { index = 0 }) m.known (subst (λ (xs : List PackageId). c.loop-id.id-index < length xs) is c.loop-id-test.true))

pub returns-in-Err-clause-left : goal.returns-in-Err-clause-left
returns-in-Err-clause-left g c =
    may-more g.F.Files.tells (g.F.Files.bytes_at c.args.files.now) (g.F.Files.bytes_at c.loop-id.files) (g.F.Files.bytes_at c.manifest_of.new.files) (g.F.Files.failed c.args.files.now) (g.F.Files.failed c.loop-id.files) (g.F.Files.failed c.manifest_of.new.files)
    c.loop-id.invariant.1 c.in-Err.ensures.left

pub returns-in-Err-clause-err : goal.returns-in-Err-clause-err
returns-in-Err-clause-err g c =
    let ms = c.args.metadata.now.workspace_members.items in
    let is = c.deref-id-items.ensures.value in
    let i = c.loop-id.id-index in
    let a = g.F.Files.bytes_at c.args.files.now in
    let b = g.F.Files.bytes_at c.loop-id.files in
    let whole = c.loop-id.invariant.1 in
    inr (
      (get_or ms i (record { index = 0 })).index,
      id-contained ms i (record { index = 0 }) (subst (λ (xs : List PackageId). i < length xs) is c.loop-id-test.true),
      fault-earlier g.F.Files.tells g.F.Files.tells a b (λ t. t) (λ t. whole.1 t) (metadata_view c.args.metadata.now) (g.F.Files.failed c.args.files.now) (g.F.Files.failed c.loop-id.files) (g.F.Files.failed c.manifest_of.new.files) whole.0
          (get_or ms i (record { index = 0 })).index c.in-Err.fault
          (subst (λ (xs : List PackageId). IsPackageFault g.F.Files.tells b (metadata_view c.args.metadata.now) (get_or xs i (record { index = 0 })).index (g.F.Files.failed c.loop-id.files) (g.F.Files.failed c.manifest_of.new.files) c.in-Err.fault) is c.in-Err.ensures.err),
    )

pub returns-in_err-push-clause-left : goal.returns-in_err-push-clause-left
returns-in_err-push-clause-left g c =
    let p = err_from_is_err_and c.from_residual.result c.from_residual.ensures.1 in
    rw p.1 (inl (whole-more g.F.Files.tells (g.F.Files.bytes_at c.args.files.now) (g.F.Files.bytes_at c.loop-id.files) (g.F.Files.bytes_at c.manifest_of.new.files) (g.F.Files.failed c.args.files.now) (g.F.Files.failed c.loop-id.files) (g.F.Files.failed c.manifest_of.new.files)
    c.loop-id.invariant.1 c.in-Ok.ensures.left))

pub loop-id-preserved : goal.loop-id-preserved
loop-id-preserved g c =
    let ms = c.args.metadata.now.workspace_members.items in
    let is = c.deref-id-items.ensures.value in
    let i = c.loop-id.id-index in
    let a = g.F.Files.bytes_at c.args.files.now in
    let b = g.F.Files.bytes_at c.loop-id.files in
    let m = metadata_view c.args.metadata.now in
    let whole = c.loop-id.invariant.1 in (
      search rules,
      whole-more g.F.Files.tells a b (g.F.Files.bytes_at c.manifest_of.new.files) (g.F.Files.failed c.args.files.now) (g.F.Files.failed c.loop-id.files) (g.F.Files.failed c.manifest_of.new.files) whole c.in-Ok.ensures.left,
      each-more (IsOfMember g.F.Files.tells a m) ms i (record { index = 0 }) c.loop-id.found.items c.push.new.self.items c.in-Ok.manifest (subst (λ (xs : List PackageId). i < length xs) is c.loop-id-test.true) c.loop-id.invariant.2
          (of-earlier g.F.Files.tells g.F.Files.tells a b (λ t. t) (λ t. whole.1 t) m (get_or ms i (record { index = 0 })).index c.in-Ok.manifest
          (subst (λ (xs : List PackageId). IsOfMember g.F.Files.tells b m (get_or xs i (record { index = 0 })).index c.in-Ok.manifest) is c.in-Ok.ensures.ok)) c.in_ok-push.ensures.items,
      λ w. makes_still [] (g.F.Files.trace c.args.files.now) (g.F.Files.trace c.loop-id.files) (g.F.Files.trace c.manifest_of.new.files) a b (g.F.Files.bytes_at c.manifest_of.new.files) (c.loop-id.invariant.3 w) (c.in-Ok.ensures.untraced w),
      none_then g.F.Files _ _ _ c.loop-id.invariant.4 c.in-Ok.ensures.calls,
    )

pub returns-in-Err-clause-calls : goal.returns-in-Err-clause-calls
returns-in-Err-clause-calls g c =
    let ms = c.args.metadata.now.workspace_members.items in
    let is = c.deref-id-items.ensures.value in
    let i = c.loop-id.id-index in
    let m = metadata_view c.args.metadata.now in
    let at = (get_or ms i (record { index = 0 })).index in
    reads-then g.F.Files (IsManifestAt m at) (IsMemberPath m) c.args.files.now c.loop-id.files c.manifest_of.new.files c.in-Err.fault
    (λ path here. (at, id-contained ms i (record { index = 0 }) (subst (λ (xs : List PackageId). i < length xs) is c.loop-id-test.true), here))
    c.loop-id.invariant.4 c.loop-id.invariant.1.1
    (subst (λ (xs : List PackageId). IsOfReadAt g.F.Files (IsManifestAt m (get_or xs i (record { index = 0 })).index) c.loop-id.files c.manifest_of.new.files c.in-Err.fault) is c.in-Err.ensures.calls)

pub returns-in_err-push-clause-calls : goal.returns-in_err-push-clause-calls
returns-in_err-push-clause-calls g c =
    let p = err_from_is_err_and c.from_residual.result c.from_residual.ensures.1 in
    rw (p.1, p.2) (inl (none_then g.F.Files _ _ _ c.loop-id.invariant.4 c.in-Ok.ensures.calls))
