use Rattle.std.proofs.Common.{List, ℕ, get_or, subst}
use Rattle.std.specs.Prelude.{Contains}
use Rattle.hack_metadata.specs.declared.metadata.resolve.PackageId.{PackageId}
use Rattle.hack_load.proofs.MemberLemmas.{id-contained}
use Rattle.hack_call_tests.proofs.tests.loading.push_members.Goals as goal

pub push_member-requires-clause-within : goal.push_member-requires-clause-within
push_member-requires-clause-within c =
    let ids : List PackageId = c.workspace_members-id-items.result.now in
    let k = c.loop-id.id-index in
    let id : PackageId = get_or ids k (record { index = 0 }) in
    c.workspace_members-id-items.ensures.whole.packages id.index
    (subst (λ (ms : List ℕ). Contains ms id.index) c.workspace_members-id-items.ensures.members (id-contained ids k (record { index = 0 }) c.loop-id-test.true))
