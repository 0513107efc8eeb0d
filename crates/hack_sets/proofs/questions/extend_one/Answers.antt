use Rattle.std.proofs.Common.{◌≡◌, ◌++◌, ◌∷◌, [], List, ℕ, suc, Bool, true, get_or, ap, ◌∙◌, sym, subst, arith}
use Rattle.hack_sets.specs.Sets.{IsSelection}
use Rattle.hack_sets.specs.Forest.{sets_of}
use Rattle.hack_sets.specs.InternalQuestions.{AreComplete}
use Rattle.hack_sets.proofs.Listing.{selection_up, selection_push}
use Rattle.hack_sets.proofs.Permitted.{complete-push}
use Rattle.hack_sets.proofs.questions.extend_one.Goals as goal

pub complete-requires : goal.complete-requires
complete-requires g c =
    let set : List ℕ = get_or (sets_of c.args.sets.now) c.args.place [] in
    let next : ℕ = c.args.next in
    let size : ℕ = g.Q.Questions.size c.args.questions.now in
    let is : c.as_slice-then-may_extend.result.now ≡ set ++ next ∷ [] =
    c.as_slice-then-may_extend.ensures.value ∙ c.in_ok-push-2.ensures.items ∙ ap (λ l. l ++ next ∷ []) c.requires.read in
    subst (λ n. IsSelection n c.as_slice-then-may_extend.result.now) (sym c.may_extend.ensures.same_size)
    (subst (IsSelection size) (sym is) (selection_up (suc next) size (set ++ next ∷ []) (omega (arith, c.requires.next)) (selection_push next set (subst (IsSelection next) c.requires.read c.requires.below))))

pub returns-then-may_extend-clause-complete : goal.returns-then-may_extend-clause-complete
returns-then-may_extend-clause-complete g c = λ before yes'.
    let whole : List ℕ → Bool = g.Q.Questions.whole c.args.questions.now in
    let all : List (List ℕ) = sets_of c.args.sets.now in
    let set : List ℕ = get_or all c.args.place [] in
    let next : ℕ = c.args.next in
    let is : c.as_slice-then-may_extend.result.now ≡ set ++ next ∷ [] =
    c.as_slice-then-may_extend.ensures.value ∙ c.in_ok-push-2.ensures.items ∙ ap (λ l. l ++ next ∷ []) c.requires.read in
    let answer : whole (set ++ next ∷ []) ≡ true =
    ap whole (sym is) ∙ ap (λ t. t c.as_slice-then-may_extend.result.now) (sym c.may_extend.ensures.same_whole) ∙ sym c.complete.ensures ∙ yes' in
    subst (AreComplete whole) (sym c.in_ok-push.ensures)
    (complete-push whole all set next (omega (arith, c.requires.inside)) answer (before c.if-not-all.false))
