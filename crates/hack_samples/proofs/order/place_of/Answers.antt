use Rattle.std.proofs.Common.{◌<◌, ◌∙◌, sym, ap, subst, ℕ, List, Bool, length, arith}
use Rattle.std.proofs.lemmas.List.{length-map}
use Rattle.hack_samples.specs.Sets.{rows_of}
use Rattle.hack_samples.specs.Order.{IsMaskBefore}
use Rattle.hack_samples.proofs.ShowLemmas.{row-at}
use Rattle.hack_samples.proofs.OrderLemmas.{front-more, fits-here}
use Rattle.hack_samples.proofs.order.place_of.Goals as goal

pub compare-requires : goal.compare-requires
compare-requires c =
    let sets = c.args.sets.now in
    let i : ℕ = c.loop-place.place in
    let t : List Bool = c.index-sets-place.result.items in
    let lt : i < length sets = omega (arith, c.loop-place-test.true) in
    let below : i < length (rows_of sets) = omega (arith, lt, length-map sets (λ v. v.items)) in
    ap length (c.as_slice.ensures.value ∙ sym (row-at sets i c.index-sets-place.result lt c.index-sets-place.is)) ∙ c.requires.sizes i t below

pub returns-in-Greater : goal.returns-in-Greater
returns-in-Greater c =
    let sets = c.args.sets.now in
    let i : ℕ = c.loop-place.place in
    let t : List Bool = c.index-sets-place.result.items in
    let lt : i < length sets = omega (arith, c.loop-place-test.true) in
    let below : i < length (rows_of sets) = omega (arith, lt, length-map sets (λ v. v.items)) in
    fits-here (rows_of sets) c.args.set.now t i (row-at sets i c.index-sets-place.result lt c.index-sets-place.is) below c.requires.ordered c.loop-place.invariant
    (subst (IsMaskBefore c.args.set.now) c.as_slice.ensures.value c.in-Greater.ensures)

pub loop-place-preserved : goal.loop-place-preserved
loop-place-preserved c =
    let sets = c.args.sets.now in
    let i : ℕ = c.loop-place.place in
    let t : List Bool = c.index-sets-place.result.items in
    let lt : i < length sets = omega (arith, c.loop-place-test.true) in
    let below : i < length (rows_of sets) = omega (arith, lt, length-map sets (λ v. v.items)) in
    front-more (rows_of sets) c.args.set.now t i (row-at sets i c.index-sets-place.result lt c.index-sets-place.is) below c.loop-place.invariant
    (subst (λ l. IsMaskBefore l c.args.set.now) c.as_slice.ensures.value c.in-Less.ensures)
