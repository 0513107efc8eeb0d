use Rattle.std.proofs.Common.{string_bytes}
use Rattle.std.proofs.lemmas.Result.{IfErr-weaker, IfOk-weaker}
use Rattle.hack_base.specs.Names.{optional_text}
use Rattle.hack_places.proofs.LookLemmas.{seen_more}
use Rattle.hack_places.proofs.LookedLemmas.{link_look, undecided}
use Rattle.hack_places.proofs.RepositoryLemmas.{file_is, folder_is, linked_is}
use Rattle.hack_places.proofs.repository.own_folder.Goals as goal

pub returns-then-branch-2-clause-found : goal.returns-then-branch-2-clause-found
returns-then-branch-2-clause-found g c =
    folder_is g.F.Files.tells _ _ c.args.folder.now (string_bytes c.in_ok-git.git) c.in_ok-has_head.field-0 c.in_ok-is_folder.field-0 c.in_ok-git.ensures c.if-branch.false c.if-branch-2.true
    (rw c.as_str.ensures.value at c.in_ok-has_head.ensures.found) c.in_ok-has_head.ensures.same (rw c.as_str-2.ensures.value at c.in_ok-is_folder.ensures.found)

pub returns-in-Some-clause-found : goal.returns-in-Some-clause-found
returns-in-Some-clause-found g c =
    IfOk-weaker c.linked.result _ _
    (λ found h. linked_is g.F.Files.tells _ _ _ _ c.args.folder.now (string_bytes c.in_ok-git.git) c.in_ok-has_head.field-0 c.in_ok-is_folder.field-0 c.in-Some.bytes.items (optional_text found)
    c.in_ok-git.ensures c.if-branch.false c.if-branch-2.false (rw c.as_str.ensures.value at c.in_ok-has_head.ensures.found) c.in_ok-has_head.ensures.same
    (rw c.as_str-2.ensures.value at c.in_ok-is_folder.ensures.found) c.in_ok-is_folder.ensures.same
    (rw (c.as_str-3.ensures.value, c.in-Some.is) at c.in_ok-bytes.ensures.found) c.in_ok-bytes.ensures.same (rw c.deref.ensures.value at h))
    c.linked.ensures.found

pub returns-clause-found : goal.returns-clause-found
returns-clause-found g c =
    file_is g.F.Files.tells _ _ _ c.args.folder.now (string_bytes c.in_ok-git.git) c.in_ok-has_head.field-0 c.in_ok-is_folder.field-0 _
    c.in_ok-git.ensures c.if-branch.false c.if-branch-2.false (rw c.as_str.ensures.value at c.in_ok-has_head.ensures.found) c.in_ok-has_head.ensures.same
    (rw c.as_str-2.ensures.value at c.in_ok-is_folder.ensures.found) c.in_ok-is_folder.ensures.same
    (rw (c.as_str-3.ensures.value, c.in-None.is) at c.in_ok-bytes.ensures.found)

pub returns-then-branch-2-clause-seen : goal.returns-then-branch-2-clause-seen
returns-then-branch-2-clause-seen g c = seen_more g.F.Files _ _ _ c.in_ok-has_head.ensures.seen c.in_ok-is_folder.ensures.seen

pub returns-clause-seen : goal.returns-clause-seen
returns-clause-seen g c = seen_more g.F.Files _ _ _ (seen_more g.F.Files _ _ _ c.in_ok-has_head.ensures.seen c.in_ok-is_folder.ensures.seen) c.in_ok-bytes.ensures.seen

pub returns-in-Some-clause-looked : goal.returns-in-Some-clause-looked
returns-in-Some-clause-looked g c =
    let git = string_bytes c.in_ok-git.git in
    IfErr-weaker c.linked.result _ _
    (λ fault h. link_look g.F.Files.tells (g.F.Files.bytes_at c.args.files.now) c.args.folder.now git c.in-Some.bytes.items fault c.in_ok-git.ensures
    (undecided g.F.Files.tells _ _ _ git c.in-Some.bytes.items c.in_ok-has_head.field-0 c.in_ok-is_folder.field-0 c.if-branch.false c.if-branch-2.false
    (rw c.as_str.ensures.value at c.in_ok-has_head.ensures.found) c.in_ok-has_head.ensures.same
    (rw c.as_str-2.ensures.value at c.in_ok-is_folder.ensures.found) c.in_ok-is_folder.ensures.same
    (rw (c.as_str-3.ensures.value, c.in-Some.is) at c.in_ok-bytes.ensures.found))
    (rw c.deref.ensures.value at h))
    c.linked.ensures.looked
