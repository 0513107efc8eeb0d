use Rattle.std.proofs.Common.{ap, sym, ◌∙◌, subst, string_bytes}
use Rattle.hack_files.specs.Faults.{IsOfText}
use Rattle.hack_manifest.specs.ManifestResults.{IsRefusal}
use Rattle.hack_metadata.specs.RecordViews.{package_view}
use Rattle.hack_metadata.specs.MetadataView.{metadata_view}
use Rattle.hack_load.proofs.MemberLemmas.{file-fault, manifest-fault, member-of, package-at}
use Rattle.hack_load.specs.FailedLoads.{IsManifestAt}
use Rattle.hack_load.proofs.FailedLemmas.{manifest-none, text-of}
use Rattle.hack_load.proofs.members.manifest_of.Goals as goal

pub returns-in-Err-clause-err : goal.returns-in-Err-clause-err
returns-in-Err-clause-err g c =
    let held = g.F.Files.bytes_at c.args.files.now in
    let old = g.F.Files.failed c.args.files.now in
    let new = g.F.Files.failed c.read_to_string.new.files in
    file-fault g.F.Files.tells held (metadata_view c.args.metadata.now) c.args.id.index old new (package_view c.get.result.now) (package-at c.args.metadata.now.packages.items c.args.id.index c.get.result.now c.get.ensures) c.in-Err.fault c.of_file.result c.of_file.ensures
    (subst (λ p. IsOfText p g.F.Files.tells (held p) old new c.in-Err.fault) c.as_str-path.ensures.value c.in-Err.ensures.fault)

pub returns-in-Ok-new-clause-ok : goal.returns-in-Ok-new-clause-ok
returns-in-Ok-new-clause-ok g c =
    member-of g.F.Files.tells (g.F.Files.bytes_at c.args.files.now) (metadata_view c.args.metadata.now) c.args.id.index (package_view c.get.result.now) c.as_str-path.result.now (string_bytes c.in-Ok.text) c.in-Ok-new.manifest
    (package-at c.args.metadata.now.packages.items c.args.id.index c.get.result.now c.get.ensures) c.as_str-path.ensures.value c.in-Ok.ensures.text c.in-Ok-new.ensures.ok

pub returns-in-Err-new-clause-err : goal.returns-in-Err-new-clause-err
returns-in-Err-new-clause-err g c =
    let held = g.F.Files.bytes_at c.args.files.now in
    manifest-fault g.F.Files.tells held (metadata_view c.args.metadata.now) c.args.id.index (g.F.Files.failed c.args.files.now) (g.F.Files.failed c.read_to_string.new.files) (package_view c.get.result.now) (string_bytes c.in-Ok.text)
    (package-at c.args.metadata.now.packages.items c.args.id.index c.get.result.now c.get.ensures) (λ t. ap held (sym c.as_str-path.ensures.value) ∙ c.in-Ok.ensures.text t) c.in-Err-new.fault c.of_manifest.result c.of_manifest.ensures
    (subst (λ p. IsRefusal p (string_bytes c.in-Ok.text) c.args.metadata.now.cargo_version c.in-Err-new.fault) c.as_str-path.ensures.value c.in-Err-new.ensures.err)

pub returns-in-Err-clause-calls : goal.returns-in-Err-clause-calls
returns-in-Err-clause-calls g c =
    let m = metadata_view c.args.metadata.now in
    text-of g.F.Files (Unit {0}) (IsManifestAt m c.args.id.index) c.as_str-path.result.now c.args.files.now c.read_to_string.new.files _ _ c.in-Err.fault c.of_file.result
    (package_view c.get.result.now, package-at c.args.metadata.now.packages.items c.args.id.index c.get.result.now c.get.ensures, c.as_str-path.ensures.value)
    c.of_file.ensures c.in-Err.ensures.refused_none c.in-Err.ensures.unseen c.in-Err.ensures.fault

pub returns-in-Ok-new-clause-calls : goal.returns-in-Ok-new-clause-calls
returns-in-Ok-new-clause-calls g c = record { unseen = c.in-Ok.ensures.unseen; refused = c.in-Ok.ensures.refused_none }

pub returns-in-Err-new-clause-calls : goal.returns-in-Err-new-clause-calls
returns-in-Err-new-clause-calls g c =
    manifest-none g.F.Files (IsManifestAt (metadata_view c.args.metadata.now) c.args.id.index) _ _ c.in-Err-new.fault c.of_manifest.result c.of_manifest.ensures (record { unseen = c.in-Ok.ensures.unseen; refused = c.in-Ok.ensures.refused_none })
