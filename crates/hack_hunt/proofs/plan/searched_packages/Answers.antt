use Rattle.std.proofs.Common.{[], ◌∙◌, ◌+◌, ◌∷◌, ap, map, subst, sym, take}
use Rattle.std.specs.List.{AllZip}
use Rattle.std.proofs.lemmas.List.{map-append}
use Rattle.hack_base.specs.Notes.{note_of}
use Rattle.hack_load.specs.ContextView.{context_view}
use Rattle.hack_metadata.specs.RecordViews.{place_at}
use Rattle.hack_plan.specs.View.{plan_package_view}
use Rattle.hack_planner.specs.Calls.{candidate_notes_at}
use Rattle.hack_planner.proofs.ChosenLemmas.{notes-more, zip-more}
use Rattle.hack_hunt.specs.Searched.{IsSearchedPackage}
use Rattle.hack_hunt.proofs.plan.searched_packages.Goals as goal

pub loop-id-init : goal.loop-id-init
loop-id-init c = record {
  ok = subst (λ ps. AllZip (IsSearchedPackage (context_view c.args.cx.now)) [] (map plan_package_view ps)) (sym c.in_ok-packages.ensures.items) tt;
  notes = ap (map note_of) c.new-notices.ensures.items;
}

pub loop-id-preserved : goal.loop-id-preserved
loop-id-preserved c =
    let cx = context_view c.args.cx.now in
    let ids = c.args.ids.now in
    let i = c.loop-id.id-index in
    let one = c.in_ok-package.package in
    let packages = ap (map plan_package_view) c.in_ok-push.ensures.items ∙ map-append plan_package_view c.loop-id.packages.items (one ∷ []) in
    let notices = ap (map note_of) c.in_ok-append.ensures.items ∙ map-append note_of c.loop-id.notices.items c.in_ok-package.told.items in
    record {
      ok = subst (AllZip (IsSearchedPackage cx) (map place_at (take (i + 1) ids))) (sym packages) (zip-more (IsSearchedPackage cx) ids i _ c.loop-id-test.true (map plan_package_view c.loop-id.packages.items) (plan_package_view one) c.in_ok-package.ensures.ok c.loop-id.invariant.ok);
      notes = notes-more place_at (candidate_notes_at cx c.args.single) ids i _ c.loop-id-test.true (map note_of c.loop-id.notices.items) (map note_of c.append.new.self.items) (map note_of c.in_ok-package.told.items) notices c.in_ok-package.ensures.notes c.loop-id.invariant.notes;
    }
