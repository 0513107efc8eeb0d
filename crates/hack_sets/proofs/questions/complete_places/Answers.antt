use Rattle.std.proofs.Common.{◌≡◌, ◌<◌, ◌++◌, ◌∷◌, [], List, ℕ, Bool, length, get_or, cond, All, ap, ◌∙◌, sym, subst, arith, append-nil}
use Rattle.std.proofs.lemmas.List.Elements.{All-push}
use Rattle.hack_sets.specs.Sets.{IsSelection}
use Rattle.hack_sets.specs.Forest.{sets_of}
use Rattle.hack_sets.specs.Questions.{is_whole}
use Rattle.hack_sets.proofs.Permitted.{places-more}
use Rattle.hack_sets.proofs.questions.complete_places.Goals as goal
use Rattle.hack_sets.proofs.questions.complete_places.Goals.{then-is_whole+in_ok-push, else-is_whole}

pub is_whole-requires : goal.is_whole-requires
is_whole-requires g c =
    let inside : c.loop-place.place < length (sets_of c.args.sets.now) = omega (arith, c.loop-place-test.true, c.len-place-end.ensures.same) in
    subst (IsSelection (g.Q.Questions.size c.args.questions.now)) (sym (c.as_slice.ensures.value ∙ c.in_ok-read.ensures)) (c.requires c.loop-place.place [] inside)

pub loop-place-preserved : goal.loop-place-preserved
loop-place-preserved g c =
    let all : List (List ℕ) = sets_of c.args.sets.now in
    let test : List ℕ → Bool = is_whole (g.Q.Questions.whole c.args.questions.now) in
    let k : ℕ = c.loop-place.place in
    let places : List ℕ = c.loop-place.places.items in
    let inside : k < length all = omega (arith, c.loop-place-test.true, c.len-place-end.ensures.same) in
    let answer : c.is_whole.result ≡ test (get_or all k []) = c.is_whole.ensures ∙ ap test (c.as_slice.ensures.value ∙ c.in_ok-read.ensures) in
    elim c.if-is_whole.branch [
      | then-is_whole+in_ok-push w ↦
          let pushed : c.if-is_whole.places.items ≡ places ++ k ∷ [] = ap (λ v. v.items) w.places-is ∙ w.in_ok-push.ensures.items in
          record {
            below = subst (All (λ p. p < length all)) (sym pushed) (All-push (λ p. p < length all) places k c.loop-place.invariant.below inside);
            kept = places-more test all k c.is_whole.result places c.if-is_whole.places.items inside answer
                (pushed ∙ ap (λ b. places ++ cond b (k ∷ []) []) (sym w.if-is_whole.true)) c.loop-place.invariant.kept;
          }
      | else-is_whole w ↦
          let kept : c.if-is_whole.places.items ≡ places = ap (λ v. v.items) w.places-is in
          record {
            below = subst (All (λ p. p < length all)) (sym kept) c.loop-place.invariant.below;
            kept = places-more test all k c.is_whole.result places c.if-is_whole.places.items inside answer
                (kept ∙ sym (append-nil places) ∙ ap (λ b. places ++ cond b (k ∷ []) []) (sym w.if-is_whole.false)) c.loop-place.invariant.kept;
          }
    ]
