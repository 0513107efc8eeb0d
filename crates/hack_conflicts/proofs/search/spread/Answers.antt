use Rattle.std.proofs.Common.{arith, ◌<◌, ◌+◌, length, sym, subst, ◌∙◌, List, Bool}
use Rattle.hack_conflicts.specs.Sets.{rows_of}
use Rattle.hack_conflicts.proofs.SetLemmas.{has_below}
use Rattle.hack_conflicts.proofs.QueueLemmas.{Spreads, spread_skip, spread_add}
use Rattle.hack_conflicts.proofs.search.spread.Goals as goal
use Rattle.hack_conflicts.proofs.search.spread.Goals.{then-has+in_ok-add_without, else-has}

pub returns-clause-avoids : goal.returns-clause-avoids
returns-clause-avoids c = λ x member s closed within lacks.
    let lt : x < length c.args.conflict.now = has_below c.args.conflict.now x member in
    c.loop-x.invariant.avoids x (omega arith) member s closed within lacks

pub loop-x-init : goal.loop-x-init
loop-x-init c = record {
  queue = λ size le q. q;
  covered = λ s inside. inside;
  avoids = λ x lt. absurd (omega arith);
}

pub loop-x-preserved : goal.loop-x-preserved
loop-x-preserved c =
    let set = c.args.set.now in
    let conflict = c.args.conflict.now in
    let old : List (List Bool) = rows_of c.args.next.now.items in
    let mid : List (List Bool) = rows_of c.loop-x.next.items in
    elim c.if-has.branch [
      | then-has+in_ok-add_without w ↦ subst (λ v. Spreads c.args.rules.now set conflict (c.loop-x.x + 1) old (rows_of v.items)) (sym w.next-is)
          (spread_add c.args.rules.now set conflict c.loop-x.x old mid c.loop-x.invariant (rows_of w.add_without.new.next.items) w.in_ok-add_without.ensures.queue w.in_ok-add_without.ensures.covered w.in_ok-add_without.ensures.avoids)
      | else-has w ↦ subst (λ v. Spreads c.args.rules.now set conflict (c.loop-x.x + 1) old (rows_of v.items)) (sym w.next-is)
          (spread_skip c.args.rules.now set conflict c.loop-x.x old mid c.loop-x.invariant (sym c.has.ensures ∙ w.if-has.false))
    ]
