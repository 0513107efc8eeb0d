use Rattle.std.proofs.Common.{◌≡◌, ap, ◌∙◌, sym, subst, All, IsTrue, filter, true}
use Rattle.hack_sets.specs.Sets.{IsSelection, IsListing}
use Rattle.hack_sets.specs.Forest.{sets_of}
use Rattle.hack_sets.specs.Questions.{is_whole, IsWholeSet}
use Rattle.hack_sets.proofs.Permitted.{listed_selections, listing_filter, listing_same, whole_iff}
use Rattle.hack_sets.proofs.questions.pruned_within.Goals as goal

pub complete_ones-requires-clause-below : goal.complete_ones-requires-clause-below
complete_ones-requires-clause-below g c =
    subst (λ n. All (IsSelection n) (sets_of c.in_ok-sets.sets)) (c.requires.size ∙ sym c.permitted_sets.ensures.same_size)
    (listed_selections c.args.n (λ s. IsTrue (g.Q.Questions.may c.args.questions.now s)) (sets_of c.in_ok-sets.sets) c.in_ok-sets.ensures.sets)

pub returns-clause-sets : goal.returns-clause-sets
returns-clause-sets g c =
    subst (λ ls. IsListing c.args.n (IsWholeSet (g.Q.Questions.may c.args.questions.now) (g.Q.Questions.whole c.args.questions.now)) ls)
    (sym (c.in_ok-sets-2.ensures ∙ ap (λ t. filter (is_whole t) (sets_of c.in_ok-sets.sets)) c.permitted_sets.ensures.same_whole))
    (listing_same c.args.n (λ s. IsTrue (g.Q.Questions.may c.args.questions.now s) × (is_whole (g.Q.Questions.whole c.args.questions.now) s ≡ true)) _ _
    (whole_iff (g.Q.Questions.may c.args.questions.now) (g.Q.Questions.whole c.args.questions.now))
    (listing_filter c.args.n (λ s. IsTrue (g.Q.Questions.may c.args.questions.now s)) (is_whole (g.Q.Questions.whole c.args.questions.now)) (sets_of c.in_ok-sets.sets) c.in_ok-sets.ensures.sets))
