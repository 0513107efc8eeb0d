use Rattle.std.proofs.Common.{arith, refl, sym, subst, [], get_or}
use borrow.Author.Count.{below_more}
use Rattle.std.proofs.lemmas.Bool.{false≢true}
use Rattle.hack_conflicts.specs.Sets.{rows_of}
use Rattle.hack_conflicts.specs.Rules.{Meets}
use Rattle.hack_conflicts.proofs.SetLemmas.{each_set, length-rows}
use Rattle.hack_conflicts.proofs.rules.meets_all.Goals as goal

pub returns : goal.returns
returns c =
    (λ e. each_set (Meets c.args.set.now) (rows_of c.args.groups.now) c.loop-place.place (omega (arith, length-rows c.args.groups.now)) c.loop-place.invariant, λ w. refl)

pub returns-then-not-meets : goal.returns-then-not-meets
returns-then-not-meets c =
    (λ e. absurd (false≢true e), λ all. c.if-not-meets.ensures.1 (subst (Meets c.args.set.now) (sym c.set_at.ensures) (all c.loop-place.place [] (omega (arith, length-rows c.args.groups.now)))))

pub loop-place-preserved : goal.loop-place-preserved
loop-place-preserved c =
    below_more (λ k. Meets c.args.set.now (get_or (rows_of c.args.groups.now) k [])) c.loop-place.place c.loop-place.invariant
    (subst (Meets c.args.set.now) c.set_at.ensures (c.if-not-meets.ensures.0 refl))
