use Rattle.std.proofs.Common.{◌≤◌, ◌∙◌, [], ◌∷◌, get_or, List, ℕ, length, map, ap, subst, Contains, arith}
use Rattle.std.specs.List.{filter_map}
use Rattle.std.proofs.lemmas.List.{get_or_default, length-map, map-append, take_all}
use Rattle.hack_load.specs.ContextView.{context_view}
use Rattle.hack_metadata.specs.declared.metadata.resolve.PackageId.{PackageId}
use Rattle.hack_metadata.specs.RecordViews.{place_at}
use Rattle.hack_base.proofs.Steps.{seen_here}
use Rattle.hack_prepare.specs.PreparedView.{member_manifest_at, member_manifest_view}
use Rattle.hack_prepare.specs.Internal.{members_view}
use Rattle.hack_prepare.proofs.MemberLemmas.{found-more}
use Rattle.hack_prepare.proofs.wanted.members_of.Goals as goal

pub member_of-requires : goal.member_of-requires
member_of-requires c =
    let ids : List PackageId = c.workspace_members-id-items.result.now in
    let k = c.loop-id.id-index in
    let id : PackageId = get_or ids k (record { index = 0 }) in
    record {
      member = subst (λ (l : List ℕ). Contains l id.index) c.workspace_members-id-items.ensures.members
          (seen_here place_at ids k id c.loop-id-test.true (get_or_default ids k (record { index = 0 }) id c.loop-id-test.true));
      whole = c.workspace_members-id-items.ensures.whole;
    }

pub loop-id-preserved : goal.loop-id-preserved
loop-id-preserved c =
    let ids : List PackageId = c.workspace_members-id-items.result.now in
    let k = c.loop-id.id-index in
    let id : PackageId = get_or ids k (record { index = 0 }) in
    found-more (member_manifest_at (context_view c.args.cx.now)) ids k id (member_manifest_view c.member_of.result) (members_view c.loop-id.members.items) _
    c.loop-id-test.true (get_or_default ids k (record { index = 0 }) id c.loop-id-test.true) c.member_of.ensures
    (ap members_view c.in_ok-push.ensures.items ∙ map-append member_manifest_view c.loop-id.members.items (c.member_of.result ∷ []))
    c.loop-id.invariant

pub returns : goal.returns
returns c =
    let ids : List PackageId = c.workspace_members-id-items.result.now in
    let past : length ids ≤ c.loop-id.id-index = omega arith in
    c.loop-id.invariant ∙ ap (filter_map (member_manifest_at (context_view c.args.cx.now))) (take_all c.loop-id.id-index (map place_at ids) (omega (arith, length-map ids place_at)) ∙ c.workspace_members-id-items.ensures.members)
