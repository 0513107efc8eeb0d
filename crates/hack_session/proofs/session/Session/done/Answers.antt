use Rattle.std.proofs.Common.{◌≡◌, ◌++◌, ◌∷◌, [], Bool, List, IsSome, arith, rules, subst, sym}
use Rattle.std.proofs.lemmas.Option.{MatchOption-at_some}
use Rattle.hack_session.specs.declared.step.Outcome.{Outcome}
use Rattle.hack_session.specs.Histories.{Hands, next_of}
use Rattle.hack_session.specs.Cursors.{IsOnItsWay, course_of, steps_left}
use Rattle.hack_session.proofs.CursorLemmas.{done_is, goes_still, next_is, on_its_way}
use Rattle.hack_session.proofs.session.Session.done.Goals as goal

pub unwrap-step-requires : goal.unwrap-step-requires
unwrap-step-requires c =
    let self = c.self.inside in
    let some : IsSome (next_of (course_of self.piece self.plan self.outcomes.items self.keep_going)) = subst (λ t. IsSome (next_of t)) (sym c.self.view_is) c.requires in
    subst IsSome (sym (next_is self.piece self.plan self.cursor self.outcomes.items self.keep_going self.stopped c.next.result (steps_left self.piece self.plan c.next.new.self) c.self.invariant.1
    (goes_still self.piece self.plan self.cursor self.outcomes.items self.keep_going self.stopped c.self.invariant.1 some) c.next.ensures.taken)) some

taken : (c : goal.After-unwrap) → steps_left c.self.inside.piece c.self.inside.plan c.self.inside.cursor ≡ c.unwrap-step.result ∷ steps_left c.self.inside.piece c.self.inside.plan c.next.new.self
taken c = MatchOption-at_some _ _ c.unwrap-step.result c.unwrap-step.ensures c.next.ensures.taken

some : (c : goal.After-unwrap) → IsSome (next_of (course_of c.self.inside.piece c.self.inside.plan c.self.inside.outcomes.items c.self.inside.keep_going))
some c = subst (λ t. IsSome (next_of t)) (sym c.self.view_is) c.requires

items : (c : goal.After-unwrap) → c.push.new.self.items ≡ c.self.inside.outcomes.items ++ c.args.outcome ∷ []
items c = search rules

pub invariant_of-self : goal.invariant_of-self
invariant_of-self c =
    let self = c.self.inside in (
      omega (arith, c.self.invariant.0, c.push.ensures.capacity),
      subst (λ (outcomes : List Outcome). IsOnItsWay self.piece self.plan c.next.new.self outcomes self.keep_going c.stops-self-inside.result) (sym (items c))
          (subst (λ (b : Bool). IsOnItsWay self.piece self.plan c.next.new.self (self.outcomes.items ++ c.args.outcome ∷ []) self.keep_going b) (sym c.stops-self-inside.ensures)
          (on_its_way self.piece self.plan self.cursor c.next.new.self self.outcomes.items self.keep_going self.stopped c.unwrap-step.result c.args.outcome c.self.invariant.1 (some c) (taken c))),
    )

pub returns : goal.returns
returns c =
    let self = c.self.inside in
    subst (λ t. Hands t c.args.outcome (course_of self.piece self.plan c.push.new.self.items self.keep_going)) c.self.view_is
    (subst (λ (outcomes : List Outcome). Hands (course_of self.piece self.plan self.outcomes.items self.keep_going) c.args.outcome (course_of self.piece self.plan outcomes self.keep_going)) (sym (items c))
    (done_is self.piece self.plan self.cursor self.outcomes.items self.keep_going self.stopped c.unwrap-step.result (steps_left self.piece self.plan c.next.new.self) c.args.outcome c.self.invariant.1 (some c) (taken c)))
