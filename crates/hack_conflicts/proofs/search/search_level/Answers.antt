use Rattle.std.proofs.Common.{◌≡◌, ℕ, ◌<◌, ◌≤◌, ◌+◌, [], arith, List, Bool, length, get_or, sym, subst, ◌∙◌}
use Rattle.std.proofs.lemmas.List.{get_or_default}
use borrow.Author.Count.{below_more}
use Rattle.hack_conflicts.specs.Sets.{rows_of, IsWithin}
use Rattle.hack_conflicts.specs.Rules.{IsClosed, size_of}
use Rattle.hack_conflicts.specs.Internal.{IsQueue, Leaves, members}
use Rattle.hack_conflicts.proofs.SetLemmas.{length-rows}
use Rattle.hack_conflicts.proofs.QueueLemmas.{queue_none, leaves_later}
use Rattle.hack_conflicts.proofs.search.search_level.Goals as goal

pub loop-place-init : goal.loop-place-init
loop-place-init g c = record {
  sound = c.requires.sound;
  grows = λ a h. h;
  ran = λ start h. h;
  steady = c.requires.steady;
  queue = subst (λ l. IsQueue c.args.rules.now c.args.size (rows_of l)) (sym c.new-next.ensures.items) (queue_none c.args.rules.now c.args.size);
  leaves = λ k lt. absurd (omega arith);
}

pub visit-requires-clause-closed : goal.visit-requires-clause-closed
visit-requires-clause-closed g c =
    let place : ℕ = c.loop-place.place in
    subst (IsClosed c.args.rules.now) (sym c.set_at.ensures) (c.requires.queue.closed place [] (omega (arith, length-rows c.args.left.now)))

pub visit-requires-clause-small : goal.visit-requires-clause-small
visit-requires-clause-small g c =
    let n : ℕ = size_of c.args.rules.now in
    let place : ℕ = c.loop-place.place in
    let s : List Bool = get_or (rows_of c.args.left.now) place [] in
    let less : members n s < c.args.size + 1 = c.requires.queue.small place [] (omega (arith, length-rows c.args.left.now)) in
    subst (λ t. members n t ≤ c.args.size) (sym c.set_at.ensures) (omega arith)

pub loop-place-preserved : goal.loop-place-preserved
loop-place-preserved g c =
    let r = c.args.rules.now in
    let i = c.loop-place.invariant in
    let e = c.in_ok-visit.ensures in
    let k = c.loop-place.known in
    let m = c.visit.new.known in
    let old : List (List Bool) = rows_of c.loop-place.next.items in
    let new : List (List Bool) = rows_of c.visit.new.next.items in
    let place : ℕ = c.loop-place.place in
    let all : List (List Bool) = rows_of c.args.left.now in
    record {
      sound = e.sound;
      grows = λ a h. e.grows a (i.grows a h);
      ran = λ start h. e.ran start (i.ran start h);
      steady = e.steady;
      queue = e.queue i.queue;
      leaves = below_more (λ j. Leaves r m (get_or all j []) new) place
          (λ j lt. leaves_later r k m (get_or all j []) old new e.grows e.covered (i.leaves j lt))
          (subst (λ s. Leaves r m s new) c.set_at.ensures e.leaves);
    }

pub returns-clause-leaves : goal.returns-clause-leaves
returns-clause-leaves g c = λ s choice (t, (k, lt, is), within).
    let all : List (List Bool) = rows_of c.args.left.now in
    let same : length all ≡ length c.args.left.now = length-rows c.args.left.now in
    let at : t ≡ get_or all k [] = sym is ∙ get_or_default all k t [] lt in
    c.loop-place.invariant.leaves k (omega arith) s choice (subst (IsWithin s) at within)
