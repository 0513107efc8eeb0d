use Rattle.std.proofs.Common.{◌≤◌, ◌∙◌, [], ◌∷◌, get_or, List, ℕ, length, map, ap, subst, Contains, arith}
use Rattle.std.specs.List.{filter_map}
use Rattle.std.proofs.lemmas.List.{get_or_default, map-append}
use Rattle.hack_load.specs.ContextView.{context_view}
use Rattle.hack_metadata.specs.declared.metadata.resolve.PackageId.{PackageId}
use Rattle.hack_metadata.specs.RecordViews.{place_at}
use Rattle.hack_planner.specs.MembersView.{member_view}
use Rattle.hack_planner.specs.ContextMembers.{member_at}
use Rattle.hack_planner.proofs.Growth.{filter_map-next, seen-all, here}
use Rattle.hack_planner.proofs.determine.members_of.Goals as goal

pub member_of-requires : goal.member_of-requires
member_of-requires c =
    let ids : List PackageId = c.workspace_members-id-items.result.now in
    let k = c.loop-id.id-index in
    let id : PackageId = get_or ids k (record { index = 0 }) in
    record {
      member = subst (λ (l : List ℕ). Contains l id.index) c.workspace_members-id-items.ensures.members
          (here place_at c.workspace_members-id-items.result.now c.loop-id.id-index id c.loop-id-test.true (get_or_default ids k (record { index = 0 }) id c.loop-id-test.true));
      whole = c.workspace_members-id-items.ensures.whole;
    }

pub loop-id-preserved : goal.loop-id-preserved
loop-id-preserved c =
    let ids : List PackageId = c.workspace_members-id-items.result.now in
    let k = c.loop-id.id-index in
    let id : PackageId = get_or ids k (record { index = 0 }) in
    filter_map-next (member_at (context_view c.args.context.now)) place_at c.workspace_members-id-items.result.now c.loop-id.id-index id (member_view c.member_of.result) _ _
    c.loop-id-test.true (get_or_default ids k (record { index = 0 }) id c.loop-id-test.true) c.member_of.ensures
    (ap (map member_view) c.in_ok-push.ensures.items ∙ map-append member_view c.loop-id.members.items (c.member_of.result ∷ []))
    c.loop-id.invariant

pub returns : goal.returns
returns c =
    let past : length c.workspace_members-id-items.result.now ≤ c.loop-id.id-index = omega arith in
    c.loop-id.invariant ∙ ap (filter_map (member_at (context_view c.args.context.now))) (seen-all place_at c.workspace_members-id-items.result.now c.loop-id.id-index past ∙ c.workspace_members-id-items.ensures.members)
