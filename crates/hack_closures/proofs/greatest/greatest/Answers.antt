use Rattle.std.proofs.Common.{◌≡◌, ◌≢◌, ◌<◌, ◌≤◌, ◌+◌, ◌-◌, ℕ, List, length, arith, ap, subst, sym, false, Bool}
use Rattle.std.specs.Prelude.{IsTrue}
use Rattle.std.proofs.lemmas.List.{length-set}
use Rattle.hack_conflicts.specs.Sets.{Has}
use Rattle.hack_conflicts.specs.Rules.{enables}
use Rattle.hack_closures.proofs.StepLemmas.{Left, left_first, left_kept, left_last, left_out}
use Rattle.hack_closures.proofs.greatest.greatest.Goals as goal

pub loop-place-init : goal.loop-place-init
loop-place-init c =
    let r = c.args.rules.now in
    let s : List Bool = c.args.set.now in
    let left : List Bool = c.in_ok-left.left.items in
    let same : left ≡ s = c.in_ok-left.ensures.items in
    let all : length s ≤ c.len-place.result = omega (arith, c.len-place.ensures, ap length same) in
    record {
      small = omega (arith, c.len-place.ensures);
      left = subst (λ l. Left r s l c.len-place.result) (sym same) (left_first r s c.len-place.result c.requires all);
    }

pub loop-place-preserved-then-has_above : goal.loop-place-preserved-then-has_above
loop-place-preserved-then-has_above c =
    let r = c.args.rules.now in
    let s : List Bool = c.args.set.now in
    let left : List Bool = c.loop-place.left.items in
    let place : ℕ = c.loop-place.place - 1 in
    let up : c.loop-place.place ≡ place + 1 = omega (arith, c.loop-place-test.true) in
    let small : c.loop-place.place ≤ length left = c.loop-place.invariant.small in
    let lt : place < length left = omega arith in
    let other : (y : ℕ) × (y ≢ place) × Has left y × IsTrue (enables r y place) = subst (λ l. (y : ℕ) × (y ≢ place) × Has l y × IsTrue (enables r y place)) c.as_slice.ensures.value c.if-has_above.ensures in
    record {
      small = omega (arith, length-set left place false);
      left = left_out r s left place c.requires lt (subst (Left r s left) up c.loop-place.invariant.left) other;
    }

pub loop-place-preserved : goal.loop-place-preserved
loop-place-preserved c =
    let r = c.args.rules.now in
    let s : List Bool = c.args.set.now in
    let left : List Bool = c.loop-place.left.items in
    let place : ℕ = c.loop-place.place - 1 in
    let up : c.loop-place.place ≡ place + 1 = omega (arith, c.loop-place-test.true) in
    let small : c.loop-place.place ≤ length left = c.loop-place.invariant.small in
    let alone : (y : ℕ) → Has left y → IsTrue (enables r y place) → y ≡ place = subst (λ l. (y : ℕ) → Has l y → IsTrue (enables r y place) → y ≡ place) c.as_slice.ensures.value c.if-has_above.ensures in
    record {
      small = omega arith;
      left = left_kept r s left place c.requires (subst (Left r s left) up c.loop-place.invariant.left) alone;
    }

pub returns : goal.returns
returns c = left_last c.args.rules.now c.args.set.now c.loop-place.left.items c.loop-place.place (omega (arith, c.loop-place-test.false)) c.loop-place.invariant.left
