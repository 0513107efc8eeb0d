use Rattle.std.proofs.Common.{◌≡◌, ap, ◌∙◌, sym, subst, arith, All, IsTrue}
use Rattle.hack_sets.specs.Sets.{IsSelection, IsListing}
use Rattle.hack_sets.specs.InternalQuestions.{AreLimits}
use Rattle.hack_sets.proofs.Permitted.{permitted_below, permitted_listing, all_selections}
use Rattle.hack_sets.proofs.questions.permitted_sets.Goals as goal

pub extend-requires-clause-below : goal.extend-requires-clause-below
extend-requires-clause-below g c =
    subst (λ ls. All (IsSelection c.loop-next.next) ls) (sym c.loop-next.invariant.sets)
    (all_selections (g.Q.Questions.may c.args.questions.now) (g.met.Q.Questions.empty c.args.questions.now) (g.met.Q.Questions.closed c.args.questions.now) c.loop-next.next)

pub extend-requires-clause-limits : goal.extend-requires-clause-limits
extend-requires-clause-limits g c =
    subst (λ m. AreLimits m (g.Q.Questions.whole c.loop-next.questions) c.args.limits) (sym c.loop-next.invariant.same_may)
    (subst (λ w. AreLimits (g.Q.Questions.may c.args.questions.now) w c.args.limits) (sym c.loop-next.invariant.same_whole) c.requires.limits)

pub returns-clause-sets : goal.returns-clause-sets
returns-clause-sets g c =
    let all : c.loop-next.next ≡ c.args.n = omega arith in
    subst (λ ls. IsListing c.args.n (λ s. IsTrue (g.Q.Questions.may c.args.questions.now s)) ls) (sym (c.loop-next.invariant.sets ∙ ap (permitted_below (g.Q.Questions.may c.args.questions.now)) all))
    (permitted_listing (g.Q.Questions.may c.args.questions.now) (g.met.Q.Questions.empty c.args.questions.now) (g.met.Q.Questions.closed c.args.questions.now) c.args.n)
