use Rattle.std.proofs.Common.{List, Some, inl, inr, arith, sym, subst, map}
use Rattle.std.proofs.lemmas.List.{take_all}
use Rattle.std.proofs.lemmas.List.Elements.{Contains-get_or}
use Rattle.hack_versions.specs.declared.group.VersionGroup.{VersionGroup}
use Rattle.hack_versions.specs.VersionUses.{UsesAt, AreVersionGroups}
use Rattle.hack_plan.specs.Inputs.{IsStepList, slots_of}
use Rattle.hack_plan.specs.Spans.{AreSpans}
use Rattle.hack_plan.proofs.Groups.{in_owns, groups-more, groups-over, groups-all}
use Rattle.hack_plan.proofs.SpanLemmas.{spans-group, spans-in, version_in}
use Rattle.hack_plan.proofs.places.InputPlaces.with_range.Goals as goal

pub add-requires-clause-within : goal.add-requires-clause-within
add-requires-clause-within c = λ b.
    let v = c.as_slice-group-items.ensures.value in
    let steps = c.requires.versions.0 in
    let are = subst (λ xs. AreVersionGroups (UsesAt c.args.range steps c.args.input.now.packages.items) xs) (sym v) c.requires.versions.2 in
    rw c.deref.ensures.value (λ k d l.
    let p = in_owns c.args.input.now c.args.counts.now c.args.range c.requires.some steps c.as_slice-group-items.result.now are c.loop-group.group-index c.group-item.result c.loop-group-test.true (sym c.group-item.is) _ (Contains-get_or c.group-item.result.packages.items k d l) in
    omega (arith, p, c.requires.counted b))

pub loop-group-preserved : goal.loop-group-preserved
loop-group-preserved c = (
  λ steps are.
      let k = c.loop-group.invariant.0 steps are in
      let f = rw c.deref.ensures.value at c.in_default.ensures.ok in (
        groups-more c.args.input.now c.args.counts.now c.args.range c.requires.some steps c.as_slice-group-items.result.now are c.loop-group.group-index c.group-item.result c.loop-group-test.true (sym c.group-item.is) _ _ _ k.0 f,
        spans-group c.args.input.now c.args.counts.now c.args.range c.requires.some steps c.as_slice-group-items.result.now are c.loop-group.group-index c.group-item.result c.loop-group-test.true (sym c.group-item.is)
            c.args.input.now.as_cargo (slots_of c.args.input.now (Some c.group-item.result.version)) _ _ k.0 k.1 f c.in_default.ensures.next,
      ),
  c.in_default.ensures.short,
)

pub returns-in-Err-clause-err : goal.returns-in-Err-clause-err
returns-in-Err-clause-err c =
    let v = c.as_slice-group-items.ensures.value in
    let steps = c.requires.versions.0 in
    let are = subst (λ xs. AreVersionGroups (UsesAt c.args.range steps c.args.input.now.packages.items) xs) (sym v) c.requires.versions.2 in
    let k = c.loop-group.invariant.0 steps are in
    let f = rw c.deref.ensures.value at c.in-Err.ensures.err in
    elim f [
      | inl e ↦ inl e
      | inr w ↦ inr (
        w.0,
        (
          steps,
          subst (λ r. IsStepList r c.args.input.now c.args.versions.now.stable steps) (sym c.requires.some) c.requires.versions.1,
          groups-over c.args.input.now c.args.counts.now c.args.range c.requires.some steps c.as_slice-group-items.result.now are c.loop-group.group-index c.group-item.result c.loop-group-test.true (sym c.group-item.is) _ k.0 w.1,
        ),
      )
    ]

pub returns-clause-ok : goal.returns-clause-ok
returns-clause-ok c =
    let v = c.as_slice-group-items.ensures.value in
    let steps = c.requires.versions.0 in
    let are = subst (λ xs. AreVersionGroups (UsesAt c.args.range steps c.args.input.now.packages.items) xs) (sym v) c.requires.versions.2 in
    let k = rw (take_all c.loop-group.group-index c.as_slice-group-items.result.now c.loop-group-test.false) at (c.loop-group.invariant.0 steps are) in (
      steps,
      subst (λ r. IsStepList r c.args.input.now c.args.versions.now.stable steps) (sym c.requires.some) c.requires.versions.1,
      groups-all c.args.input.now c.args.counts.now c.args.range steps c.as_slice-group-items.result.now _ c.requires.some are k.0,
    )

pub returns-clause-spans : goal.returns-clause-spans
returns-clause-spans c =
    let v = c.as_slice-group-items.ensures.value in
    let steps = c.requires.versions.0 in
    let are = subst (λ xs. AreVersionGroups (UsesAt c.args.range steps c.args.input.now.packages.items) xs) (sym v) c.requires.versions.2 in
    let k = rw (take_all c.loop-group.group-index c.as_slice-group-items.result.now c.loop-group-test.false) at (c.loop-group.invariant.0 steps are) in
    subst (λ (xs : List VersionGroup). AreSpans (map version_in xs) c.loop-group.places.entries c.loop-group.places.spans) v (spans-in _ c.loop-group.places k.1)

pub returns-clause-tiled : goal.returns-clause-tiled
returns-clause-tiled c =
    let steps = c.requires.versions.0 in
    let are = subst (λ xs. AreVersionGroups (UsesAt c.args.range steps c.args.input.now.packages.items) xs) (sym c.as_slice-group-items.ensures.value) c.requires.versions.2 in
    let k = rw (take_all c.loop-group.group-index c.as_slice-group-items.result.now c.loop-group-test.false) at (c.loop-group.invariant.0 steps are) in
    k.1.tiled
