use Rattle.std.proofs.Common.{◌≡◌, ◌∙◌, sym, ap, subst, ℕ, List, Bool, get_or, set, true}
use Rattle.hack_samples.specs.Sets.{IsInside}
use Rattle.hack_samples.specs.Internal.{may_join, IsSuited}
use Rattle.hack_samples.proofs.SetLemmas.{Joins, join-true, suited-join, suited-turned, inside-self, inside-more}
use Rattle.hack_samples.proofs.greedy.add_one_of.Goals as goal

pub may_join-requires : goal.may_join-requires
may_join-requires g c =
    suited-turned c.loop-position.invariant.same_may c.loop-position.invariant.same_size c.args.banned.now c.as_slice-in-loop-position.result.now
    (subst (IsSuited (g.A.Allowed.may c.args.allowed.now) (g.A.Allowed.size c.args.allowed.now) c.args.banned.now)
    (sym (c.as_slice-in-loop-position.ensures.value ∙ c.loop-position.invariant.same)) c.requires)

pub returns-then-branch-clause-suited : goal.returns-then-branch-clause-suited
returns-then-branch-clause-suited g c =
    let may : List Bool → Bool = g.A.Allowed.may c.args.allowed.now in
    let n : ℕ = g.A.Allowed.size c.args.allowed.now in
    let banned : List Bool = c.args.banned.now in
    let s : List Bool = c.args.set.now.items in
    let p : ℕ = get_or c.args.group.now c.loop-position.position-index 0 in
    let is : c.as_slice-in-loop-position.result.now ≡ s = c.as_slice-in-loop-position.ensures.value ∙ c.loop-position.invariant.same in
    let yes' : may_join may banned s p ≡ true =
    ap (λ m. may_join m banned s p) (sym c.loop-position.invariant.same_may)
    ∙ ap (λ l. may_join (g.A.Allowed.may c.loop-position.allowed) banned l p) (sym is)
    ∙ sym c.in_ok-may_join.ensures.joins
    ∙ c.if-branch.true in
    let joins : Joins may banned s p = join-true may banned s p yes' in
    subst (IsSuited may n banned) (sym (c.add.ensures ∙ ap (λ l. set l p true) c.loop-position.invariant.same))
    (suited-join may n banned s p c.requires joins.free joins.allowed)

pub returns-then-branch-clause-inside : goal.returns-then-branch-clause-inside
returns-then-branch-clause-inside g c =
    let s : List Bool = c.args.set.now.items in
    let p : ℕ = get_or c.args.group.now c.loop-position.position-index 0 in
    subst (IsInside s) (sym (c.add.ensures ∙ ap (λ l. set l p true) c.loop-position.invariant.same)) (inside-more s p)

pub returns-clause-suited : goal.returns-clause-suited
returns-clause-suited g c =
    subst (IsSuited (g.A.Allowed.may c.args.allowed.now) (g.A.Allowed.size c.args.allowed.now) c.args.banned.now) (sym c.loop-position.invariant.same) c.requires

pub returns-clause-inside : goal.returns-clause-inside
returns-clause-inside g c = subst (IsInside c.args.set.now.items) (sym c.loop-position.invariant.same) (inside-self c.args.set.now.items)
