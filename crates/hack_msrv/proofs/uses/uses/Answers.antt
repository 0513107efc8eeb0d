use Rattle.std.proofs.Common.{◌≡◌, ◌∙◌, List, Some, Vec, Global, ℕ, true, false, ap, sym, length, refl, subst}
use Rattle.std.specs.Prelude.{slice_get}
use Rattle.std.proofs.lemmas.List.{append-nil}
use Rattle.std.proofs.lemmas.Option.{slice_get_read}
use Rattle.hack_plan.specs.declared.parts.PlanVersion.{PlanVersion}
use Rattle.hack_msrv.proofs.UseLemmas.{uses-more}
use Rattle.hack_msrv.proofs.uses.uses.Goals as goal
use Rattle.hack_msrv.proofs.uses.uses.Goals.{then-has_place+in_ok-push, else-has_place}

at : (c : goal.Joined-has_place) → slice_get c.args.plan.now.versions c.loop-index.index ≡ Some c.index-versions-index.result
at c =
    subst (λ (vs : List PlanVersion). slice_get vs c.loop-index.index ≡ Some c.index-versions-index.result) c.versions-versions.ensures.value
    (slice_get_read c.versions-versions.result.now (length c.versions-versions.result.now) c.loop-index.index c.index-versions-index.result refl c.loop-index-test.true c.index-versions-index.is)

pub loop-index-preserved : goal.loop-index-preserved
loop-index-preserved c =
    let plan = c.args.plan.now in
    let v = c.index-versions-index.result in
    elim c.if-has_place.branch [
      | then-has_place+in_ok-push w ↦
          ap (λ (u : Vec ℕ Global). u.items) w.uses-is ∙ w.in_ok-push.ensures.items
          ∙ sym (uses-more plan c.args.member c.loop-index.index v (at c) true w.if-has_place.ensures c.loop-index.uses.items c.loop-index.invariant)
      | else-has_place w ↦
          ap (λ (u : Vec ℕ Global). u.items) w.uses-is ∙ sym (append-nil c.loop-index.uses.items)
          ∙ sym (uses-more plan c.args.member c.loop-index.index v (at c) false w.if-has_place.ensures c.loop-index.uses.items c.loop-index.invariant)
    ]
