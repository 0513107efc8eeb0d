use Rattle.std.proofs.Common.{◌≡◌, ◌+◌, List, [], sym, subst, map, take, inl, inr, ◌⊎◌}
use Rattle.std.specs.List.{AllZip}
use Rattle.std.proofs.lemmas.List.{take_all}
use Rattle.hack_base.proofs.Members.{Contains-nil}
use Rattle.hack_load.specs.ContextView.{context_view}
use Rattle.hack_metadata.specs.RecordViews.{place_at}
use Rattle.hack_metadata.specs.declared.metadata.resolve.PackageId.{PackageId}
use Rattle.hack_versions.specs.declared.version.VersionFault.TheVariants as version
use Rattle.hack_planner.specs.Calls.{IsMember, HasBadOwn}
use Rattle.hack_planner.proofs.ChosenLemmas.{zip-more, none-bad-more, bad-at}
use Rattle.hack_planner.proofs.FaultLemmas.{version-turned}
use Rattle.hack_planner.proofs.input.members.Goals as goal

pub loop-id-init : goal.loop-id-init
loop-id-init c =
    let cx = context_view c.args.cx.now in
    (subst (AllZip (IsMember cx) []) (sym c.in_ok-members.ensures.items) tt, λ e bad. Contains-nil bad.0 bad.1)

pub returns-in-Err : goal.returns-in-Err
returns-in-Err c =
    let cx = context_view c.args.cx.now in
    let ids = c.args.ids.now in
    let cause : (c.in-Err.fault ≡ version.Memory) ⊎ HasBadOwn cx (map place_at ids) c.in-Err.fault = elim c.in-Err.ensures.err [ inl e ↦ inl e | inr bad ↦ inr (bad-at cx ids c.loop-id.id-index _ c.loop-id-test.true c.in-Err.fault bad) ] in
    record { ok = tt; never = tt; err = rw c.of_version.ensures (version-turned cx (map place_at ids) c.in-Err.fault cause) }

pub loop-id-preserved : goal.loop-id-preserved
loop-id-preserved c =
    let cx = context_view c.args.cx.now in
    let ids = c.args.ids.now in
    let i = c.loop-id.id-index in (
      subst (AllZip (IsMember cx) (map place_at (take (i + 1) ids))) (sym c.in_ok-push-in-Ok.ensures.items)
          (zip-more (IsMember cx) ids i _ c.loop-id-test.true c.loop-id.members.items c.in-Ok.member c.in-Ok.ensures.ok c.loop-id.invariant.0),
      none-bad-more cx ids i _ c.loop-id-test.true c.in-Ok.ensures.never c.loop-id.invariant.1,
    )

pub returns-clause-never : goal.returns-clause-never
returns-clause-never c = λ e bad.
    c.loop-id.invariant.1 e (subst (λ (ids : List PackageId). HasBadOwn (context_view c.args.cx.now) (map place_at ids) e) (sym (take_all c.loop-id.id-index c.args.ids.now c.loop-id-test.false)) bad)
