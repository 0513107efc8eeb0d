use Rattle.std.proofs.Common.{ℕ, ◌≤◌, arith, List, Bool, sym, subst}
use borrow.Author.Count.{below_more}
use Rattle.hack_conflicts.specs.Sets.{Has}
use Rattle.hack_conflicts.specs.Rules.{IsClosed}
use Rattle.hack_conflicts.specs.Internal.{IsWithout}
use Rattle.hack_conflicts.proofs.RuleLemmas.{without_within, without_lacks, without_closed, without_around}
use Rattle.hack_conflicts.proofs.rules.Rules.without_block.Goals as goal

pub loop-x-init : goal.loop-x-init
loop-x-init c = record {
  within = λ p h. subst (λ s. Has s p) c.in_ok-left.ensures.items h;
  closed = subst (IsClosed c.args.self.now) (sym c.in_ok-left.ensures.items) c.requires.closed;
  around = λ s closed within lacks p h. subst (λ t. Has t p) (sym c.in_ok-left.ensures.items) (within p h);
  lacks = λ x le lt. absurd (omega arith);
}

pub loop-x-preserved : goal.loop-x-preserved
loop-x-preserved c =
    let r = c.args.self.now in
    let i = c.loop-x.invariant in
    let x : ℕ = c.loop-x.x in
    let s : List Bool = c.loop-x.left.items in
    let t : List Bool = c.in_ok-left-2.left.items in
    let w : IsWithout r x s t = subst (λ u. IsWithout r x u t) c.as_slice.ensures.value c.in_ok-left-2.ensures in
    record {
      within = λ p h. i.within p (without_within r x s t w p h);
      closed = without_closed r x s t w c.requires.order i.closed;
      around = λ u closed within lacks. without_around r x s t w u closed (i.around u closed within (λ y le lt. lacks y le (omega arith))) (lacks x (omega arith) (omega arith));
      lacks = λ y le lt. below_more (λ y. c.args.from ≤ y → ¬ Has t y) x
          (λ y lt le h. i.lacks y le lt (without_within r x s t w y h))
          (λ le h. without_lacks r x s t w c.requires.order (i.closed.below x (without_within r x s t w x h)) h) y lt le;
    }

pub returns-clause-around : goal.returns-clause-around
returns-clause-around c = λ s closed within lacks. c.loop-x.invariant.around s closed within (λ x le lt. lacks x le (omega arith))
