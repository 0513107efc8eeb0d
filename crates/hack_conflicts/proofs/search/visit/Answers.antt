use Rattle.std.proofs.Common.{◌≡◌, arith, ap, ◌∙◌, List, Bool}
use Rattle.hack_conflicts.specs.Rules.{size_of}
use Rattle.hack_conflicts.specs.Internal.{members}
use Rattle.hack_conflicts.proofs.search.visit.Goals as goal

pub returns-then-count_members-size-clause-queue : goal.returns-then-count_members-size-clause-queue
returns-then-count_members-size-clause-queue g c = λ q.
    let r = c.args.rules.now in
    let set : List Bool = c.args.set.now in
    let same : c.len.result ≡ size_of r = omega (arith, c.len.ensures, r.enables.ok.0) in
    let count : c.count_members.result ≡ members (size_of r) set = c.count_members.ensures ∙ ap (λ n. members n set) same in
    c.in_ok-add_set.ensures.queue r c.args.size c.requires.closed (omega (arith, c.if-count_members-size.true, count)) q

pub returns-clause-queue : goal.returns-clause-queue
returns-clause-queue g c = λ q. c.in_ok-search_set.ensures.queue c.args.size c.requires.small q
