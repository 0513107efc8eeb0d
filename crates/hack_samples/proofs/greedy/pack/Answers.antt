use Rattle.std.proofs.Common.{◌∙◌, sym, subst, List, Bool, ℕ}
use Rattle.hack_samples.specs.Sets.{IsInside}
use Rattle.hack_samples.specs.Internal.{IsSuited}
use Rattle.hack_samples.proofs.SetLemmas.{suited-turned}
use Rattle.hack_samples.proofs.greedy.pack.Goals as goal
use Rattle.hack_samples.proofs.greedy.pack.Goals.{then-next-best, else-next-best}

pub loop-preserved : goal.loop-preserved
loop-preserved g c =
    let may : List Bool → Bool = g.A.Allowed.may c.args.allowed.now in
    let n : ℕ = g.A.Allowed.size c.args.allowed.now in
    let banned : List Bool = c.args.banned.now in
    let inv = c.loop.invariant in
    let made = c.pack_once-in-loop.ensures in
    record {
      suited = elim c.if-next-best.branch [
        | then-next-best w ↦
            subst (λ b. IsSuited may n banned b.set.items) (sym w.best-is)
            (suited-turned (sym inv.same_may) (sym inv.same_size) banned c.in_ok-next.next.set.items c.in_ok-next.ensures.suited)
        | else-next-best w ↦ subst (λ b. IsSuited may n banned b.set.items) (sym w.best-is) inv.suited
      ];
      inside = elim c.if-next-best.branch [
        | then-next-best w ↦ subst (λ b. IsInside c.args.set.now b.set.items) (sym w.best-is) c.in_ok-next.ensures.inside
        | else-next-best w ↦ subst (λ b. IsInside c.args.set.now b.set.items) (sym w.best-is) inv.inside
      ];
      within = λ k end old. made.within k end (inv.within k end old);
      same_size = made.same_size ∙ inv.same_size;
      same_may = made.same_may ∙ inv.same_may;
      stays = λ first old. made.stays first (inv.stays first old);
    }
