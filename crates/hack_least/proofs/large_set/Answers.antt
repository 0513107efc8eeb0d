use Rattle.std.proofs.Common.{◌≡◌, ◌∙◌, length, sym, subst, ap, true, false}
use Rattle.std.proofs.lemmas.List.{length-replicate}
use Rattle.hack_features.specs.ClosureLaws.{may-empty, same_more}
use Rattle.hack_features.specs.Samples.{positions_of}
use Rattle.hack_features.specs.View.{may_of, size_of}
use Rattle.hack_least.proofs.SetLemmas.{same-permitted}
use Rattle.hack_least.proofs.large_set.Goals as goal

pub all_ties-requires-clause-permitted : goal.all_ties-requires-clause-permitted
all_ties-requires-clause-permitted c =
    let r = c.args.rules.now in
    subst (λ s. may_of r (positions_of s) ≡ true) (sym (c.as_slice.ensures.value ∙ c.in_ok-set.ensures)) (may-empty r)

pub loop-number-init : goal.loop-number-init
loop-number-init c =
    let r = c.args.rules.now in
    record {
      size = ap length c.in_ok-set.ensures ∙ length-replicate (size_of r) false;
      permitted = subst (λ s. may_of r (positions_of s) ≡ true) (sym c.in_ok-set.ensures) (may-empty r);
      same = c.all_ties.ensures.same;
    }

pub grow-requires-clause-permitted : goal.grow-requires-clause-permitted
grow-requires-clause-permitted c =
    same-permitted c.args.rules.now c.loop-number.rules c.loop-number.set.items c.loop-number.invariant.same c.loop-number.invariant.permitted

pub loop-number-preserved : goal.loop-number-preserved
loop-number-preserved c =
    let r = c.args.rules.now in
    let inv = c.loop-number.invariant in
    record {
      size = c.grow.ensures.size ∙ inv.size;
      permitted = sym (ap (λ may. may (positions_of c.grow.new.set.items)) inv.same.may) ∙ c.grow.ensures.permitted;
      same = same_more r c.loop-number.rules c.grow.new.rules inv.same c.grow.ensures.same;
    }

pub returns-clause-permitted : goal.returns-clause-permitted
returns-clause-permitted c = c.loop-number.invariant.permitted
