use Rattle.std.proofs.Common.{◌<◌, subst, ℕ, List, length, arith}
use Rattle.std.proofs.lemmas.List.{length-map}
use Rattle.hack_samples.specs.Sets.{rows_of}
use Rattle.hack_suspects.specs.Suspects.{IsPatternBefore}
use Rattle.hack_samples.specs.declared.sets.Setting.{Setting}
use Rattle.hack_samples.proofs.ShowLemmas.{row-at}
use Rattle.hack_suspects.proofs.PatternLemmas.{front-more, fits-here}
use Rattle.hack_suspects.proofs.patterns.place_of.Goals as goal

pub returns-in-Greater : goal.returns-in-Greater
returns-in-Greater c =
    let found = c.args.found.now in
    let i : ℕ = c.loop-place.place in
    let q : List Setting = c.index-found-place.result.items in
    let lt : i < length found = omega (arith, c.loop-place-test.true) in
    let below : i < length (rows_of found) = omega (arith, lt, length-map found (λ v. v.items)) in
    fits-here (rows_of found) c.args.pattern.now q i (row-at found i c.index-found-place.result lt c.index-found-place.is) below c.requires c.loop-place.invariant
    (subst (IsPatternBefore c.args.pattern.now) c.as_slice.ensures.value c.in-Greater.ensures)

pub loop-place-preserved : goal.loop-place-preserved
loop-place-preserved c =
    let found = c.args.found.now in
    let i : ℕ = c.loop-place.place in
    let q : List Setting = c.index-found-place.result.items in
    let lt : i < length found = omega (arith, c.loop-place-test.true) in
    let below : i < length (rows_of found) = omega (arith, lt, length-map found (λ v. v.items)) in
    front-more (rows_of found) c.args.pattern.now q i (row-at found i c.index-found-place.result lt c.index-found-place.is) below c.loop-place.invariant
    (subst (λ l. IsPatternBefore l c.args.pattern.now) c.as_slice.ensures.value c.in-Less.ensures)
