use Rattle.std.proofs.Common.{◌≡◌, ◌<◌, ◌++◌, [], ◌∷◌, List, ℕ, Bool, length, get_or, ap, ◌∙◌, sym, subst, arith, inl, inr, append_assoc}
use Rattle.std.proofs.Math.ListN.{get_or-append}
use Rattle.hack_sets.specs.Sets.{IsSelection}
use Rattle.hack_sets.specs.Forest.{sets_of}
use Rattle.hack_sets.specs.InternalQuestions.{with_next, AreComplete, AreOpen}
use Rattle.hack_sets.proofs.OpenLemmas.{at, open-asked, open-gone_in, next-place}
use Rattle.hack_sets.proofs.questions.extend_open.Goals as goal
use Rattle.hack_sets.proofs.questions.extend_open.Goals.{then-has_room+then-len-new+in_ok-push, else-has_room, else-has_room-via-then-has_room+else-len-new, else-has_room-via-else-has_room}

-- elements in front keep their places
in_front : {X : Type 0} (front more all : List X) (k : ℕ) (d : X) → k < length front → all ≡ front ++ more → get_or all k d ≡ get_or front k d
in_front front more all k d lt is = ap (λ l. get_or l k d) is ∙ get_or-append front more d k lt

pub extend_one-requires-clause-below : goal.extend_one-requires-clause-below
extend_one-requires-clause-below g c =
    let old : List (List ℕ) = sets_of c.args.found.now.sets in
    let places : List ℕ = c.args.places.now.items in
    let k : ℕ = c.loop-rank.rank in
    let place : ℕ = c.index-place.result.now in
    let more = c.loop-rank.invariant.kept in
    let lt : k < length places = omega (arith, c.loop-rank-test.true, c.len-rank-end.ensures) in
    let here : place ≡ get_or places k place = c.index-place.ensures ∙ in_front places more.0 c.loop-rank.places.items k place lt more.1 in
    let inside : place < length old = subst (λ p. p < length old) (sym here) (c.requires.places.inside k place lt) in
    let set : c.read.new.set.items ≡ at old place = c.in_ok-read.ensures ∙ in_front old _ (sets_of c.loop-rank.found.sets) place [] inside c.loop-rank.invariant.sets in
    subst (IsSelection c.args.next) (sym set) (c.requires.below place [] inside)

pub loop-rank-preserved : goal.loop-rank-preserved
loop-rank-preserved g c =
    let may : List ℕ → Bool = g.Q.Questions.may c.args.questions.now in
    let old : List (List ℕ) = sets_of c.args.found.now.sets in
    let sets : List (List ℕ) = sets_of c.loop-rank.found.sets in
    let new : List (List ℕ) = sets_of c.extend_one.new.sets in
    let places : List ℕ = c.args.places.now.items in
    let all : List ℕ = c.loop-rank.places.items in
    let next : ℕ = c.args.next in
    let k : ℕ = c.loop-rank.rank in
    let place : ℕ = c.index-place.result.now in
    let s : List ℕ = c.read.new.set.items in
    let more = c.loop-rank.invariant.kept in
    let lt : k < length places = omega (arith, c.loop-rank-test.true, c.len-rank-end.ensures) in
    let here : place ≡ get_or places k place = c.index-place.ensures ∙ in_front places more.0 all k place lt more.1 in
    let inside : place < length old = subst (λ p. p < length old) (sym here) (c.requires.places.inside k place lt) in
    let set : s ≡ at old place = c.in_ok-read.ensures ∙ in_front old _ sets place [] inside c.loop-rank.invariant.sets in
    let pushed : new ≡ sets ++ with_next may next (s ∷ []) =
    c.in_ok-found.ensures.sets ∙ ap (λ m. sets ++ with_next m next (s ∷ [])) c.loop-rank.invariant.same_may in
    record {
      sets = next-place may old sets new next places k place s lt here set c.loop-rank.invariant.sets pushed;
      kept = elim c.if-has_room.branch [
        | then-has_room+then-len-new+in_ok-push w ↦ (
          more.0 ++ c.len-new.result ∷ [],
          ap (λ v. v.items) w.places-is ∙ w.in_ok-push.ensures.items
              ∙ ap (λ l. l ++ c.len-new.result ∷ []) more.1 ∙ append_assoc places more.0 (c.len-new.result ∷ []),
        )
        | else-has_room w ↦ (more.0, ap (λ v. v.items) w.places-is ∙ more.1)
      ];
      open_ones = elim c.if-has_room.branch [
        | then-has_room+then-len-new+in_ok-push w ↦
            subst (AreOpen may new)
            (sym (ap (λ v. v.items) w.places-is ∙ w.in_ok-push.ensures.items ∙ ap (λ n. all ++ n ∷ []) c.len-new.ensures.same))
            (open-gone_in may sets new all s next pushed (omega (arith, w.if-len-new.true, w.len-then-has_room.ensures.same, c.len-new.ensures.same)) c.loop-rank.invariant.open_ones)
        | else-has_room w ↦
            subst (AreOpen may new) (sym (ap (λ v. v.items) w.places-is))
            (open-asked may c.args.most sets new all s next c.requires.most pushed c.loop-rank.invariant.open_ones
            (elim w.else-has_room.branch [
              | else-has_room-via-then-has_room+else-len-new w' ↦ inr (omega (arith, w'.if-len-new.false, w'.len-then-has_room.ensures.same, c.len-new.ensures.same))
              | else-has_room-via-else-has_room w' ↦ inl (omega (arith, w'.if-has_room.false, c.len.ensures))
            ]))
      ];
      complete = λ before now.
          subst (λ w. AreComplete w new) c.loop-rank.invariant.same_whole
          (c.in_ok-found.ensures.complete (λ yes'. subst (λ w. AreComplete w sets) (sym c.loop-rank.invariant.same_whole) (c.loop-rank.invariant.complete before yes')) now);
      counted = omega (arith, c.in_ok-found.ensures.counted, c.loop-rank.invariant.counted);
      risen = omega (arith, c.in_ok-found.ensures.risen, c.loop-rank.invariant.risen);
      same_choice = c.in_ok-found.ensures.same_choice ∙ c.loop-rank.invariant.same_choice;
      same_size = c.in_ok-found.ensures.same_size ∙ c.loop-rank.invariant.same_size;
      same_may = c.in_ok-found.ensures.same_may ∙ c.loop-rank.invariant.same_may;
      same_whole = c.in_ok-found.ensures.same_whole ∙ c.loop-rank.invariant.same_whole;
    }
