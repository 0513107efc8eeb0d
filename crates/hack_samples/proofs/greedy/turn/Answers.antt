use Rattle.std.proofs.Common.{◌∙◌, sym, subst}
use Rattle.hack_samples.specs.Internal.{IsSuited}
use Rattle.hack_samples.proofs.SetLemmas.{suited-turned, inside-then}
use Rattle.hack_samples.proofs.greedy.turn.Goals as goal

pub add_one_of-requires : goal.add_one_of-requires
add_one_of-requires g c =
    subst (λ held. IsSuited (g.A.Allowed.may c.loop-row.allowed) (g.A.Allowed.size c.loop-row.allowed) held c.loop-row.set.items) (sym c.as_slice-in-loop-row.ensures.value)
    (suited-turned c.loop-row.invariant.same_may c.loop-row.invariant.same_size c.args.held.now.items c.loop-row.set.items c.loop-row.invariant.suited)

pub returns-in_err-add_one_of-clause-within : goal.returns-in_err-add_one_of-clause-within
returns-in_err-add_one_of-clause-within g c = λ k end old. c.add_one_of.ensures.within k end (c.loop-row.invariant.within k end old)

pub loop-row-preserved : goal.loop-row-preserved
loop-row-preserved g c = record {
  suited = suited-turned (sym c.loop-row.invariant.same_may) (sym c.loop-row.invariant.same_size) c.args.held.now.items c.add_one_of.new.set.items
      (subst (λ held. IsSuited (g.A.Allowed.may c.loop-row.allowed) (g.A.Allowed.size c.loop-row.allowed) held c.add_one_of.new.set.items) c.as_slice-in-loop-row.ensures.value c.in_ok-add_one_of.ensures.suited);
  inside = inside-then c.args.set.now.items c.loop-row.set.items c.add_one_of.new.set.items c.loop-row.invariant.inside c.in_ok-add_one_of.ensures.inside;
  within = λ k end old. c.add_one_of.ensures.within k end (c.loop-row.invariant.within k end old);
  same_size = c.add_one_of.ensures.same_size ∙ c.loop-row.invariant.same_size;
  same_may = c.add_one_of.ensures.same_may ∙ c.loop-row.invariant.same_may;
  stays = λ first old. c.add_one_of.ensures.stays first (c.loop-row.invariant.stays first old);
}
