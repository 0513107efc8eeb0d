use Rattle.std.proofs.Common.{◌≡◌, ◌<◌, ◌++◌, [], ◌∷◌, true, filter, List, ℕ, Bool, length, get_or, take, ap, ◌∙◌, sym, subst, arith}
use Rattle.std.proofs.Math.ListN.{get_or-append}
use Rattle.hack_sets.specs.Sets.{IsSelection}
use Rattle.hack_sets.specs.Forest.{sets_of}
use Rattle.hack_sets.specs.InternalQuestions.{with_next, AreComplete}
use Rattle.hack_sets.proofs.ForestLemmas.{length-grown}
use Rattle.hack_sets.proofs.Permitted.{complete-each}
use Rattle.hack_sets.proofs.questions.extend.Goals as goal

-- the sets so far begin with the old ones
old-at : (may : List ℕ → Bool) (next : ℕ) (old all : List (List ℕ)) (k : ℕ) → k < length old → all ≡ old ++ with_next may next (take k old) → get_or all k [] ≡ get_or old k []
old-at may next old all k h e = ap (λ l. get_or l k []) e ∙ get_or-append old (with_next may next (take k old)) [] k h

pub extend_one-requires-clause-below : goal.extend_one-requires-clause-below
extend_one-requires-clause-below g c =
    let old : List (List ℕ) = sets_of c.args.found.now.sets in
    let k : ℕ = c.loop-place.place in
    let inside : k < length old = omega (arith, c.loop-place-test.true, c.len-place-end.ensures.same) in
    subst (IsSelection c.args.next)
    (sym (c.in_ok-read.ensures ∙ old-at (g.Q.Questions.may c.args.questions.now) c.args.next old (sets_of c.loop-place.found.sets) k inside c.loop-place.invariant.sets))
    (c.requires.below k [] inside)

pub returns-then-limits-clause-complete : goal.returns-then-limits-clause-complete
returns-then-limits-clause-complete g c = λ before all.
    let whole : List ℕ → Bool = g.Q.Questions.whole c.args.questions.now in
    let old : List (List ℕ) = sets_of c.args.found.now.sets in
    subst (AreComplete whole) (sym c.in_ok-extend_each.ensures)
    (complete-each whole old (filter (λ _. true) old) c.args.next
    (omega (arith, length-grown ([] ∷ []) c.args.found.now.sets.links.items)) (λ s. (c.requires.limits.free c.if-limits.true s).1) (before all))
