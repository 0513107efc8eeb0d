use Rattle.std.proofs.Common.{◌≡◌, ◌↔◌, ◌<◌, ◌∙◌, sym, ap, subst, List, Bool, ℕ, length, get_or, set, refl, true, false, arith}
use Rattle.std.proofs.lemmas.List.{length-set}
use Rattle.hack_samples.specs.Sets.{has}
use Rattle.hack_samples.specs.Internal.{IsClear}
use Rattle.hack_samples.proofs.DemandLemmas.{ban-step, clear-past, clear-more}
use Rattle.hack_samples.proofs.demands.ban.Goals as goal
use Rattle.hack_samples.proofs.demands.ban.Goals.{then-position-len, else-position-len}

pub loop-position-preserved : goal.loop-position-preserved
loop-position-preserved c =
    let group : List ℕ = c.args.group.now in
    let i : ℕ = c.loop-position.position-index in
    let lt : i < length group = c.loop-position-test.true in
    let old : List Bool = c.args.banned.now.items in
    let now : List Bool = c.loop-position.banned.items in
    let p : ℕ = get_or group i 0 in
    elim c.if-position-len.branch [
      | then-position-len w ↦
          let is : c.if-position-len.banned.items ≡ set now p true = ap (λ v. v.items) w.banned-is ∙ w.add.ensures in
          record {
            size = ap length is ∙ length-set now p true ∙ c.loop-position.invariant.size;
            clear = λ s h. ban-step group i p old now c.if-position-len.banned.items s lt refl
                (subst (λ l. IsClear l s ↔ (IsClear now s × (has s p ≡ false))) (sym is) (clear-more now s p (omega (arith, w.if-position-len.true, c.len.ensures))))
                (c.loop-position.invariant.clear s h);
          }
      | else-position-len w ↦
          let is : c.if-position-len.banned.items ≡ now = ap (λ v. v.items) w.banned-is in
          record {
            size = ap length is ∙ c.loop-position.invariant.size;
            clear = λ s h. ban-step group i p old now c.if-position-len.banned.items s lt refl
                (subst (λ l. IsClear l s ↔ (IsClear now s × (has s p ≡ false))) (sym is) (clear-past now s p (omega (arith, w.if-position-len.false, c.len.ensures, h, c.loop-position.invariant.size))))
                (c.loop-position.invariant.clear s h);
          }
    ]
