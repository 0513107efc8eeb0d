use Rattle.std.proofs.Common.{◌≡◌, ◌<◌, ◌+◌, ◌-◌, [], List, ℕ, Bool, cond, sym, ap, subst, length, get_or, arith}
use Rattle.std.specs.List.{remove}
use Rattle.hack_features.specs.InternalCover.{covers_test}
use Rattle.hack_samples.specs.Sets.{rows_of}
use Rattle.hack_routes.specs.RoutesView.{routed_names}
use Rattle.hack_features.proofs.CoverLemmas.{Greedy, greedy_start, greedy_turn, greedy_end, kept_room}
use Rattle.hack_features.proofs.cover.first_cover.Goals as goal

pub loop-place-init : goal.loop-place-init
loop-place-init c = record {
  small = omega arith;
  room = omega (arith, ap length c.in_ok-kept.ensures.items);
  greedy = λ k are sel w. subst (Greedy k c.args.positions.now (length c.args.positions.now)) (sym c.in_ok-kept.ensures.items) (greedy_start k c.args.positions.now sel w);
}

pub loop-place-preserved : goal.loop-place-preserved
loop-place-preserved c =
    let place = c.loop-place.place - 1 in
    let kept : List ℕ = c.loop-place.kept.items in
    let e = c.args.enabled.now in
    let marks : List (List Bool) = rows_of e.routes.marks.items in
    let all : List (List ℕ) = rows_of e.candidates.items in
    let at : place < length kept = omega (arith, c.loop-place.invariant.room, c.loop-place-test.true) in
    let next : c.in_ok-kept-2.kept.items ≡ cond (covers_test marks all (remove kept place) (get_or all (get_or kept place 0) [])) (remove kept place) kept = c.in_ok-kept-2.ensures in
    record {
      small = omega (arith, c.loop-place.invariant.small);
      room = kept_room _ kept place at c.in_ok-kept-2.kept.items next;
      greedy = λ k are sel w.
          let up : c.loop-place.place ≡ place + 1 = omega (arith, c.loop-place-test.true) in
          greedy_turn k (routed_names e.routes) e.routes.keys.items marks all (rows_of e.groups.items) are c.args.positions.now sel place (omega (arith, c.loop-place.invariant.small, c.loop-place-test.true)) kept
          (subst (λ m. Greedy k c.args.positions.now m kept) up (c.loop-place.invariant.greedy k are sel w)) c.in_ok-kept-2.kept.items next;
    }

pub returns : goal.returns
returns c = λ k are sel w.
    let done : c.loop-place.place ≡ 0 = omega arith in
    greedy_end k c.args.positions.now sel c.loop-place.kept.items (subst (λ m. Greedy k c.args.positions.now m c.loop-place.kept.items) done (c.loop-place.invariant.greedy k are sel w))
