use Rattle.std.proofs.Common.{◌≡◌, ◌<◌, ◌+◌, ◌∙◌, [], arith, ap, get_or, length, subst, sym, take}
use Rattle.std.proofs.lemmas.List.{get_or-map, length-map, take_all}
use Rattle.std.specs.Prelude.{Bool, List}
use Rattle.std.specs.List.{AllZip}
use Rattle.hack_closures.specs.Closures.{IsBuildFor}
use Rattle.hack_closures.specs.View.{alone_in, choice_in, has_all, search_of}
use Rattle.hack_closures.specs.declared.build.Build.{Build}
use Rattle.hack_conflicts.specs.Rules.{IsChoice}
use Rattle.hack_conflicts.specs.Sets.{rows_of}
use Rattle.hack_hunt.proofs.OrderLemmas.{built_rise}
use Rattle.hack_hunt.proofs.SetLemmas.{zip_more}
use Rattle.hack_hunt.proofs.one.builds_of.Goals as goal

pub loop-set-init : goal.loop-set-init
loop-set-init c = λ chosen.
    let closures = c.args.closures.now in
    subst (λ (l : List Build). AllZip (IsBuildFor (choice_in closures) (alone_in closures) (has_all closures) (search_of closures)) [] l) (sym c.in_ok-builds.ensures.items) tt

pub loop-set-preserved : goal.loop-set-preserved
loop-set-preserved c = λ chosen.
    let closures = c.args.closures.now in
    let sets = c.args.sets.now in
    let rows = rows_of sets in
    let k = c.loop-set.set-index in
    let row = c.set-item.result.items in
    let many : k < length rows = omega (arith, c.loop-set-test.true, length-map sets (λ v. v.items)) in
    let here : get_or rows k row ≡ row = get_or-map (λ v. v.items) sets k c.set-item.result row c.loop-set-test.true ∙ ap (λ v. v.items) (sym c.set-item.is) in
    let built = rw c.as_slice.ensures.value at c.in_ok-build_of.ensures in
    let one = built (subst (IsChoice (search_of closures)) here (chosen k row many)) in
    subst (λ (l : List Build). AllZip (IsBuildFor (choice_in closures) (alone_in closures) (has_all closures) (search_of closures)) (take (k + 1) rows) l) (sym c.in_ok-push.ensures.items)
    (zip_more (IsBuildFor (choice_in closures) (alone_in closures) (has_all closures) (search_of closures)) rows k row many c.loop-set.builds.items c.in_ok-build_of.field-0
    (subst (λ (s : List Bool). IsBuildFor (choice_in closures) (alone_in closures) (has_all closures) (search_of closures) s c.in_ok-build_of.field-0) (sym here) one) (c.loop-set.invariant chosen))

pub returns : goal.returns
returns c = λ chosen.
    let closures = c.args.closures.now in
    let sets = c.args.sets.now in
    let each = subst (λ (l : List (List Bool)). AllZip (IsBuildFor (choice_in closures) (alone_in closures) (has_all closures) (search_of closures)) l c.loop-set.builds.items)
    (take_all c.loop-set.set-index (rows_of sets) (omega (arith, c.loop-set-test.false, length-map sets (λ v. v.items)))) (c.loop-set.invariant chosen) in (
      c.loop-set.builds.items,
      each,
      c.in_ok-sort_builds.ensures.permutation,
      c.in_ok-sort_builds.ensures.order (built_rise (choice_in closures) (alone_in closures) (has_all closures) (search_of closures) (rows_of sets) c.loop-set.builds.items each),
    )
