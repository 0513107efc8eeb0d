use Rattle.std.proofs.Common.{◌∙◌, ◌+◌, ◌++◌, [], ◌∷◌, List, ℕ, sym, ap, subst, take, map, inl, inr, refl}
use Rattle.std.specs.List.{AllZip, flat_map}
use Rattle.std.proofs.lemmas.List.{map-append, take_all}
use Rattle.hack_load.specs.ContextView.{context_view}
use Rattle.hack_plan.specs.Entries.{HasTooMany}
use Rattle.hack_plan.specs.View.{plan_package_view}
use Rattle.hack_base.specs.Notes.{note_of}
use Rattle.hack_planner.specs.Calls.{candidate_notes_at}
use Rattle.hack_planner.specs.InternalLeastPlaces.{HasAtLeast}
use Rattle.hack_planner.specs.InternalUses.{IsCoveredAs, IsPlannedAs, id_of}
use Rattle.hack_planner.specs.declared.uses.Chosen.{Chosen}
use Rattle.hack_planner.proofs.ChosenLemmas.{notes-more, zip-next}
use Rattle.hack_planner.proofs.LeastPlaceLemmas.{fewer-push, many-more, planned-itself}
use Rattle.hack_planner.proofs.PlanSampleLemmas.{runs-at}
use Rattle.hack_planner.proofs.chosen.chosen_packages.Goals as goal

pub loop-one-init : goal.loop-one-init
loop-one-init c =
    let cx = context_view c.args.cx.now in
    record {
      planned = λ _. subst (λ ps. AllZip (IsPlannedAs cx) [] (map plan_package_view ps)) (sym c.in_ok-packages.ensures.items) tt;
      covered = λ _. subst (λ ps. AllZip (IsCoveredAs cx) [] (map plan_package_view ps)) (sym c.in_ok-packages.ensures.items) tt;
      told = λ _. ap (map note_of) c.new-notices.ensures.items;
      counted = subst (λ (ns : List ℕ). AllZip (HasAtLeast cx) [] ns) (sym c.in_ok-counts.ensures.items) tt;
      over = λ e. absurd (cc);
    }

pub loop-one-preserved-in-Ok-Err : goal.loop-one-preserved-in-Ok-Err
loop-one-preserved-in-Ok-Err c =
    let cx = context_view c.args.cx.now in
    let chosen = c.args.chosen.now in
    let i = c.loop-one.one-index in
    let over = rw c.in-Ok-Err.field-0-is at c.in-Ok-Err.ensures.over in
    let pushed = c.in_ok-push-in-Ok-Err.ensures.items in
    record {
      planned = λ e. absurd (cc);
      covered = λ e. absurd (cc);
      told = λ e. absurd (cc);
      counted = subst (AllZip (HasAtLeast cx) (take (i + 1) chosen)) (sym pushed) (zip-next (HasAtLeast cx) chosen i _ c.loop-one-test.true c.loop-one.counts.items c.in-Ok-Err.least over.0 c.loop-one.invariant.counted);
      over = λ _. subst (λ (ns : List ℕ). HasTooMany c.args.input.now ns c.args.versions.now.stable) (ap (λ (ns : List ℕ). ns ++ c.in-Ok-Err.least ∷ []) c.as_slice.ensures.value ∙ sym pushed) over.1;
    }

pub loop-one-preserved : goal.loop-one-preserved
loop-one-preserved c =
    let cx = context_view c.args.cx.now in
    let chosen = c.args.chosen.now in
    let i = c.loop-one.one-index in
    let pkg = c.in-Ok-Ok.answer.0 in
    let planned = rw c.in-Ok-Ok.field-0-is at c.in-Ok-Ok.ensures.ok in
    let covered = rw c.in-Ok-Ok.field-0-is at c.in-Ok-Ok.ensures.coverage in
    let told = rw c.in-Ok-Ok.field-0-is at c.in-Ok-Ok.ensures.notes in
    let before = map plan_package_view c.loop-one.packages.items in
    let counts = c.loop-one.counts.items in
    let packages = ap (map plan_package_view) c.in_ok-push-2.ensures.items ∙ map-append plan_package_view c.loop-one.packages.items (pkg ∷ []) in
    let notices = ap (map note_of) c.in_ok-append.ensures.items ∙ map-append note_of c.loop-one.notices.items c.in-Ok-Ok.answer.1.items in
    record {
      planned = λ fits. subst (AllZip (IsPlannedAs cx) (take (i + 1) chosen)) (sym packages) (zip-next (IsPlannedAs cx) chosen i _ c.loop-one-test.true before (plan_package_view pkg) planned (c.loop-one.invariant.planned fits));
      covered = λ fits. subst (AllZip (IsCoveredAs cx) (take (i + 1) chosen)) (sym packages) (zip-next (IsCoveredAs cx) chosen i _ c.loop-one-test.true before (plan_package_view pkg) covered (c.loop-one.invariant.covered fits));
      told = λ fits. notes-more id_of (candidate_notes_at cx c.args.single) chosen i _ c.loop-one-test.true (map note_of c.loop-one.notices.items) (map note_of c.append.new.self.items) (map note_of c.in-Ok-Ok.answer.1.items)
          notices told (c.loop-one.invariant.told fits);
      counted = subst (AllZip (HasAtLeast cx) (take (i + 1) chosen)) (sym c.in_ok-push.ensures.items)
          (zip-next (HasAtLeast cx) chosen i _ c.loop-one-test.true counts c.len.result (planned-itself cx _ (plan_package_view pkg) c.len.result c.len.ensures planned) c.loop-one.invariant.counted);
      over = λ not. subst (λ (ns : List ℕ). HasTooMany c.args.input.now ns c.args.versions.now.stable) (sym c.in_ok-push.ensures.items)
          (many-more c.args.input.now counts (counts ++ c.len.result ∷ []) c.args.versions.now.stable (fewer-push counts c.len.result) (c.loop-one.invariant.over not));
    }

pub returns-in-Err-clause-err : goal.returns-in-Err-clause-err
returns-in-Err-clause-err c =
    elim c.in-Err.ensures.err [ inl e ↦ inl e | inr bad ↦ inr (inl (runs-at (context_view c.args.cx.now) c.args.chosen.now c.loop-one.one-index _ c.loop-one-test.true c.in-Err.fault bad)) ]

pub returns-then-not-fits-clause-err : goal.returns-then-not-fits-clause-err
returns-then-not-fits-clause-err c =
    let cx = context_view c.args.cx.now in
    inr (inr (
      refl,
      record {
        counts = c.loop-one.counts.items;
        each = subst (λ (l : List Chosen). AllZip (HasAtLeast cx) l c.loop-one.counts.items) (take_all c.loop-one.one-index c.args.chosen.now c.loop-one-test.false) c.loop-one.invariant.counted;
        many = c.loop-one.invariant.over c.if-not-fits.true;
      },
    ))

pub returns-clause-ok : goal.returns-clause-ok
returns-clause-ok c =
    let cx = context_view c.args.cx.now in
    subst (λ (l : List Chosen). AllZip (IsPlannedAs cx) l (map plan_package_view c.loop-one.packages.items))
    (take_all c.loop-one.one-index c.args.chosen.now c.loop-one-test.false) (c.loop-one.invariant.planned c.if-not-fits.false)

pub returns-clause-coverage : goal.returns-clause-coverage
returns-clause-coverage c =
    let cx = context_view c.args.cx.now in
    subst (λ (l : List Chosen). AllZip (IsCoveredAs cx) l (map plan_package_view c.loop-one.packages.items))
    (take_all c.loop-one.one-index c.args.chosen.now c.loop-one-test.false) (c.loop-one.invariant.covered c.if-not-fits.false)

pub returns-clause-notes : goal.returns-clause-notes
returns-clause-notes c =
    c.loop-one.invariant.told c.if-not-fits.false
    ∙ ap (λ (l : List Chosen). flat_map (candidate_notes_at (context_view c.args.cx.now) c.args.single) (map id_of l)) (take_all c.loop-one.one-index c.args.chosen.now c.loop-one-test.false)
