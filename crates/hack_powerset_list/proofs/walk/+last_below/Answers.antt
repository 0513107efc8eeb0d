use Rattle.std.proofs.Common.{◌≡◌, ◌∙◌, ◌<◌, ◌≤◌, ◌-◌, ◌++◌, ◌∷◌, ℕ, suc, List, Bool, cond, length, filter, true, false, ap, sym, subst, arith, drop}
use Rattle.std.specs.Prelude.{not}
use Rattle.hack_sets.specs.Questions.{is_whole}
use Rattle.hack_sets.specs.Sets.{IsSelection}
use Rattle.hack_features.specs.View.{may_of, size_of, whole_of}
use Rattle.hack_sets.proofs.Permitted.{whole-cons}
use Rattle.hack_powerset_list.specs.Walks.{listed_below}
use Rattle.hack_powerset_list.specs.Room.{set_in}
use Rattle.hack_powerset_list.proofs.WalkLemmas.{selection-front, selection-short, above-front}
use Rattle.hack_powerset_list.proofs.ListedLemmas.{listed-same, Ends, below-skip, below-step, below-full, ends-append, ends-none, ends-kept, ends-left_out, ends-here}
use Rattle.hack_powerset_list.proofs.walk.+last_below.Goals as goal
use Rattle.hack_powerset_list.proofs.walk.+last_below.Goals.{then-is_none+then-complete+in_ok-from_slice, else-is_none, else-is_none-via-then-is_none+else-complete, else-is_none-via-else-is_none}

pub returns-then-is_full-clause-last : goal.returns-then-is_full-clause-last
returns-then-is_full-clause-last t c =
    let r = c.args.rules.now in
    let s : List ℕ = set_in c.args.room.now in
    ap (filter (is_whole (whole_of r))) (below-full (may_of r) s c.args.limit (c.is_full.ensures c.if-is_full.true s (ap length (sym c.set.ensures))))

pub loop-p-preserved-then-not-may_begin : goal.loop-p-preserved-then-not-may_begin
loop-p-preserved-then-not-may_begin t c =
    let r = c.args.rules.now in
    let s : List ℕ = set_in c.args.room.now in
    let q : ℕ = c.loop-p.p - 1 in
    let at : c.loop-p.p ≡ suc q = omega (arith, c.loop-p-test.true) in
    let refused : may_of r (q ∷ s) ≡ false =
    ap (λ l. may_of r (q ∷ l)) (sym (c.set-in-loop-p.ensures ∙ c.loop-p.invariant.kept)) ∙ sym (c.may_begin.ensures.answer ∙ ap (λ f. f (q ∷ c.set-in-loop-p.result.now)) c.loop-p.invariant.same_may) ∙ c.if-not-may_begin.true in
    record {
      inside = omega (arith, c.loop-p.invariant.inside);
      kept = c.loop-p.invariant.kept;
      room = c.loop-p.invariant.room;
      same_size = c.may_begin.ensures.same_size ∙ c.loop-p.invariant.same_size;
      same_may = c.may_begin.ensures.same_may ∙ c.loop-p.invariant.same_may;
      same_whole = c.may_begin.ensures.same_whole ∙ c.loop-p.invariant.same_whole;
      none = c.loop-p.invariant.none ∙ ap (λ n. listed_below r n s) at ∙ below-skip (is_whole (whole_of r)) (may_of r) q s refused;
    }

pub may_begin-requires : goal.may_begin-requires
may_begin-requires t c =
    let r = c.args.rules.now in
    let s : List ℕ = set_in c.args.room.now in
    let q : ℕ = c.loop-p.p - 1 in
    let lt : q < c.args.limit = omega (arith, c.loop-p-test.true, c.loop-p.invariant.inside) in
    subst (λ n. IsSelection n (q ∷ c.set-in-loop-p.result.now)) (sym c.loop-p.invariant.same_size)
    (subst (λ l. IsSelection (size_of r) (q ∷ l)) (sym (c.set-in-loop-p.ensures ∙ c.loop-p.invariant.kept))
    (selection-front (size_of r) q s (omega (arith, lt, c.requires.limit)) (above-front c.args.limit q s lt c.requires.above) c.requires.set))

pub put-requires : goal.put-requires
put-requires t c =
    let r = c.args.rules.now in
    let s : List ℕ = set_in c.args.room.now in
    let q : ℕ = c.loop-p.p - 1 in
    let lt : q < c.args.limit = omega (arith, c.loop-p-test.true, c.loop-p.invariant.inside) in
    let short : length (q ∷ s) ≤ size_of r =
    selection-short (size_of r) (q ∷ s) (selection-front (size_of r) q s (omega (arith, lt, c.requires.limit)) (above-front c.args.limit q s lt c.requires.above) c.requires.set) in
    omega (arith, short, ap length c.loop-p.invariant.kept, c.loop-p.invariant.room, c.requires.room)

pub returns-then-is_some-clause-last : goal.returns-then-is_some-clause-last
returns-then-is_some-clause-last t c =
    let r = c.args.rules.now in
    let whole : List ℕ → Bool = whole_of r in
    let s : List ℕ = set_in c.args.room.now in
    let q : ℕ = c.loop-p.p - 1 in
    let at : c.loop-p.p ≡ suc q = omega (arith, c.loop-p-test.true) in
    let L : List (List ℕ) = listed_below r q (q ∷ s) in
    let H : List (List ℕ) = cond (is_whole whole (q ∷ s)) ((q ∷ s) ∷ L) L in
    let permitted : may_of r (q ∷ s) ≡ true =
    ap (λ l. may_of r (q ∷ l)) (sym (c.set-in-loop-p.ensures ∙ c.loop-p.invariant.kept)) ∙ sym (c.may_begin.ensures.answer ∙ ap (λ f. f (q ∷ c.set-in-loop-p.result.now)) c.loop-p.invariant.same_may) ∙ c.if-not-may_begin.false in
    let all : listed_below r c.args.limit s ≡ listed_below r q s ++ H =
    c.loop-p.invariant.none ∙ ap (λ n. listed_below r n s) at ∙ below-step (is_whole whole) (may_of r) q s permitted in
    let stood : set_in c.put.new.self ≡ q ∷ s = c.put.ensures.set ∙ ap (λ l. q ∷ l) c.loop-p.invariant.kept in
    let rec : Ends L c.in_ok-last.last =
    subst (λ l. Ends (listed_below r q l) c.in_ok-last.last) stood
    (subst (λ l. Ends l c.in_ok-last.last) (listed-same r c.may_begin.new.self q (set_in c.put.new.self) (c.may_begin.ensures.same_may ∙ c.loop-p.invariant.same_may) (c.may_begin.ensures.same_whole ∙ c.loop-p.invariant.same_whole)) c.in_ok-last.ensures.last) in
    let whole3 : whole_of c.last_below.new.rules ≡ whole = c.in_ok-last.ensures.same_whole ∙ c.may_begin.ensures.same_whole ∙ c.loop-p.invariant.same_whole in
    let here : Ends H c.if-is_none.last =
    elim c.if-is_none.branch [
      | then-is_none+then-complete+in_ok-from_slice w ↦
          let set : set_in c.last_below.new.room ≡ q ∷ s = c.in_ok-last.ensures.kept ∙ stood in
          let complete : is_whole whole (q ∷ s) ≡ true =
          whole-cons whole q s ∙ ap whole (sym (w.set-then-is_none.ensures ∙ set)) ∙ ap (λ f. f w.set-then-is_none.result.now) (sym whole3) ∙ sym w.complete.ensures.answer ∙ w.if-complete.true in
          subst (Ends H) (sym w.last-is)
          (ends-here (is_whole whole (q ∷ s)) (q ∷ s) L c.in_ok-last.last w.in_ok-from_slice.field-0 complete (c.is_none.ensures ∙ ap not w.if-is_none.true) rec
          (w.in_ok-from_slice.ensures.items ∙ w.set-then-complete.ensures ∙ set))
      | else-is_none w ↦
          subst (Ends H) (sym w.last-is)
          (elim w.else-is_none.branch [
            | else-is_none-via-then-is_none+else-complete w' ↦
                let set : set_in c.last_below.new.room ≡ q ∷ s = c.in_ok-last.ensures.kept ∙ stood in
                ends-left_out (is_whole whole (q ∷ s)) (q ∷ s) L c.in_ok-last.last
                (whole-cons whole q s ∙ ap whole (sym (w'.set-then-is_none.ensures ∙ set)) ∙ ap (λ f. f w'.set-then-is_none.result.now) (sym whole3) ∙ sym w'.complete.ensures.answer ∙ w'.if-complete.false) rec
            | else-is_none-via-else-is_none w' ↦ ends-kept (is_whole whole (q ∷ s)) (q ∷ s) L c.in_ok-last.last (c.is_none.ensures ∙ ap not w'.if-is_none.false) rec
          ])
    ] in
    ends-append (listed_below r q s) H (listed_below r c.args.limit s) c.if-is_none.last all (sym c.is_some.ensures ∙ c.if-is_some.true) here

pub loop-p-preserved : goal.loop-p-preserved
loop-p-preserved t c =
    let r = c.args.rules.now in
    let whole : List ℕ → Bool = whole_of r in
    let s : List ℕ = set_in c.args.room.now in
    let q : ℕ = c.loop-p.p - 1 in
    let at : c.loop-p.p ≡ suc q = omega (arith, c.loop-p-test.true) in
    let L : List (List ℕ) = listed_below r q (q ∷ s) in
    let H : List (List ℕ) = cond (is_whole whole (q ∷ s)) ((q ∷ s) ∷ L) L in
    let permitted : may_of r (q ∷ s) ≡ true =
    ap (λ l. may_of r (q ∷ l)) (sym (c.set-in-loop-p.ensures ∙ c.loop-p.invariant.kept)) ∙ sym (c.may_begin.ensures.answer ∙ ap (λ f. f (q ∷ c.set-in-loop-p.result.now)) c.loop-p.invariant.same_may) ∙ c.if-not-may_begin.false in
    let all : listed_below r c.args.limit s ≡ listed_below r q s ++ H =
    c.loop-p.invariant.none ∙ ap (λ n. listed_below r n s) at ∙ below-step (is_whole whole) (may_of r) q s permitted in
    let stood : set_in c.put.new.self ≡ q ∷ s = c.put.ensures.set ∙ ap (λ l. q ∷ l) c.loop-p.invariant.kept in
    let rec : Ends L c.in_ok-last.last =
    subst (λ l. Ends (listed_below r q l) c.in_ok-last.last) stood
    (subst (λ l. Ends l c.in_ok-last.last) (listed-same r c.may_begin.new.self q (set_in c.put.new.self) (c.may_begin.ensures.same_may ∙ c.loop-p.invariant.same_may) (c.may_begin.ensures.same_whole ∙ c.loop-p.invariant.same_whole)) c.in_ok-last.ensures.last) in
    let whole3 : whole_of c.last_below.new.rules ≡ whole = c.in_ok-last.ensures.same_whole ∙ c.may_begin.ensures.same_whole ∙ c.loop-p.invariant.same_whole in
    let here : Ends H c.if-is_none.last =
    elim c.if-is_none.branch [
      | then-is_none+then-complete+in_ok-from_slice w ↦
          let set : set_in c.last_below.new.room ≡ q ∷ s = c.in_ok-last.ensures.kept ∙ stood in
          let complete : is_whole whole (q ∷ s) ≡ true =
          whole-cons whole q s ∙ ap whole (sym (w.set-then-is_none.ensures ∙ set)) ∙ ap (λ f. f w.set-then-is_none.result.now) (sym whole3) ∙ sym w.complete.ensures.answer ∙ w.if-complete.true in
          subst (Ends H) (sym w.last-is)
          (ends-here (is_whole whole (q ∷ s)) (q ∷ s) L c.in_ok-last.last w.in_ok-from_slice.field-0 complete (c.is_none.ensures ∙ ap not w.if-is_none.true) rec
          (w.in_ok-from_slice.ensures.items ∙ w.set-then-complete.ensures ∙ set))
      | else-is_none w ↦
          subst (Ends H) (sym w.last-is)
          (elim w.else-is_none.branch [
            | else-is_none-via-then-is_none+else-complete w' ↦
                let set : set_in c.last_below.new.room ≡ q ∷ s = c.in_ok-last.ensures.kept ∙ stood in
                ends-left_out (is_whole whole (q ∷ s)) (q ∷ s) L c.in_ok-last.last
                (whole-cons whole q s ∙ ap whole (sym (w'.set-then-is_none.ensures ∙ set)) ∙ ap (λ f. f w'.set-then-is_none.result.now) (sym whole3) ∙ sym w'.complete.ensures.answer ∙ w'.if-complete.false) rec
            | else-is_none-via-else-is_none w' ↦ ends-kept (is_whole whole (q ∷ s)) (q ∷ s) L c.in_ok-last.last (c.is_none.ensures ∙ ap not w'.if-is_none.false) rec
          ])
    ] in
    record {
      inside = omega (arith, c.loop-p.invariant.inside);
      kept = c.take.ensures.set ∙ ap (drop 1) (c.in_ok-last.ensures.kept ∙ stood);
      room = c.take.ensures.most ∙ c.in_ok-last.ensures.room ∙ c.put.ensures.most ∙ c.loop-p.invariant.room;
      same_size = c.in_ok-last.ensures.same_size ∙ c.may_begin.ensures.same_size ∙ c.loop-p.invariant.same_size;
      same_may = c.in_ok-last.ensures.same_may ∙ c.may_begin.ensures.same_may ∙ c.loop-p.invariant.same_may;
      same_whole = whole3;
      none = ends-none (listed_below r q s) H (listed_below r c.args.limit s) c.if-is_none.last all (sym c.is_some.ensures ∙ c.if-is_some.false) here;
    }
