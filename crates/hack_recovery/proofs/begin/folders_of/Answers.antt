use Rattle.std.proofs.Common.{string_bytes}
use Rattle.std.proofs.lemmas.Result.{err_from_is_err_and}
use Rattle.std.specs.Option.{option_map}
use Rattle.hack_base.specs.Names.{Name}
use Rattle.hack_files.specs.Files.{Contents}
use Rattle.hack_places.specs.Folders.{folders, said_in}
use Rattle.hack_places.specs.LookedPaths.{IsWorkspaceLook}
use Rattle.hack_places.proofs.LookLemmas.{seen_more}
use Rattle.hack_places.proofs.LookedLemmas.{looked_more, manifest_first}
use Rattle.hack_recovery.specs.CallCourses.{IsFolderLook}
use Rattle.hack_recovery.specs.CallCourses.IsFolderLook.{for_workspace}
use Rattle.hack_recovery.proofs.begin.folders_of.Goals as goal

pub returns-in_err-found-clause-looked : goal.returns-in_err-found-clause-looked
returns-in_err-found-clause-looked g c =
    let p = err_from_is_err_and c.from_residual-in_err-found.result c.from_residual-in_err-found.ensures.1 in
    let T = g.F.Files.tells in
    let first : Contents = g.F.Files.bytes_at c.args.files.now in
    let mid : Contents = g.F.Files.bytes_at c.package_dir.new.files in
    let pkg_dir : Name = string_bytes c.in_ok-pkg_dir.pkg_dir in
    rw (p.1, p.2) (looked_more (IsWorkspaceLook T mid pkg_dir) (IsFolderLook T first (option_map (λ path. path.now) c.args.named) c.args.env.now) _
    (λ path look. for_workspace c.if-env.false pkg_dir (rw c.as_str-dir.ensures.value at c.in_ok-pkg_dir.ensures.found)
    (manifest_first T (λ held. said_in held pkg_dir) first mid (folders pkg_dir) path c.in_ok-pkg_dir.ensures.same look))
    (rw c.as_str.ensures.value at c.in_err-found.ensures.looked))

pub returns-clause-seen : goal.returns-clause-seen
returns-clause-seen g c = seen_more g.F.Files _ _ _ c.in_ok-pkg_dir.ensures.seen c.in_ok-found.ensures.seen
