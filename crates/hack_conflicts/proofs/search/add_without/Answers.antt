use Rattle.std.proofs.Common.{◌<◌, arith, List, Bool, sym, subst}
use Rattle.hack_conflicts.specs.Sets.{rows_of}
use Rattle.hack_conflicts.specs.Rules.{size_of}
use Rattle.hack_conflicts.specs.Internal.{IsWithout, members}
use Rattle.hack_conflicts.proofs.RuleLemmas.{without_closed, without_around}
use Rattle.hack_conflicts.proofs.ShrinkLemmas.{fewer_without}
use Rattle.hack_conflicts.proofs.QueueLemmas.{inside_less}
use Rattle.hack_conflicts.proofs.search.add_without.Goals as goal

pub returns-clause-queue : goal.returns-clause-queue
returns-clause-queue c = λ size le q.
    let r = c.args.rules.now in
    let s : List Bool = c.args.set.now in
    let t : List Bool = c.as_slice.result.now in
    let w : IsWithout r c.args.x s t = subst (IsWithout r c.args.x s) (sym c.as_slice.ensures.value) c.in_ok-smaller.ensures in
    let less : members (size_of r) t < members (size_of r) s = fewer_without r c.args.x s t c.requires.order c.requires.closed c.requires.member w in
    c.in_ok-add_set.ensures.queue r size (without_closed r c.args.x s t w c.requires.order c.requires.closed) (omega arith) q

pub returns-clause-avoids : goal.returns-clause-avoids
returns-clause-avoids c = λ u closed within lacks.
    let r = c.args.rules.now in
    let s : List Bool = c.args.set.now in
    let t : List Bool = c.as_slice.result.now in
    let w : IsWithout r c.args.x s t = subst (IsWithout r c.args.x s) (sym c.as_slice.ensures.value) c.in_ok-smaller.ensures in
    inside_less (rows_of c.add_set.new.next.items) u t (without_around r c.args.x s t w u closed within lacks) c.in_ok-add_set.ensures.added
