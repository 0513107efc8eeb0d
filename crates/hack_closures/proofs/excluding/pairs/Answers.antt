use Rattle.std.proofs.Common.{◌≡◌, ◌∷◌, ◌+◌, ◌++◌, [], ℕ, List, subst, sym, ap, ◌∙◌, Bool}
use Rattle.hack_conflicts.specs.Sets.{rows_of}
use Rattle.hack_closures.proofs.StepLemmas.{rows_push, pair_only, pair_each, pair_skipped, OnlyPairs, EachPair}
use Rattle.hack_closures.proofs.excluding.pairs.Goals as goal
use Rattle.hack_closures.proofs.excluding.pairs.Goals.{then-not-has+in_ok-pair+in_ok-push, else-not-has}

record Both (marks : List Bool) (last n : ℕ) (rows : List (List Bool)) : Type 0 where
  only : OnlyPairs marks last rows
  each : EachPair marks last n rows

pub loop-x-preserved : goal.loop-x-preserved
loop-x-preserved c =
    let marks : List Bool = c.args.row.now in
    let last : ℕ = c.args.last in
    let x : ℕ = c.loop-x.x in
    let old : List (List Bool) = rows_of c.loop-x.rows.items in
    let both : Both marks last (x + 1) (rows_of c.if-not-has.rows.items) = elim c.if-not-has.branch [
      | then-not-has+in_ok-pair+in_ok-push w ↦
          let row : List Bool = w.in_ok-pair.field-0.items in
          let e : rows_of w.push.new.self.items ≡ old ++ row ∷ [] = ap rows_of w.in_ok-push.ensures.items ∙ rows_push c.loop-x.rows.items w.in_ok-pair.field-0 in
          subst (λ v. Both marks last (x + 1) (rows_of v.items)) (sym w.rows-is)
          (subst (Both marks last (x + 1)) (sym e)
          (record {
            only = pair_only marks last x old row c.loop-x.invariant.only c.loop-x-test.true (sym c.has.ensures ∙ w.if-not-has.true) w.in_ok-pair.ensures;
            each = pair_each marks last x old row c.loop-x.invariant.each w.in_ok-pair.ensures;
          }))
      | else-not-has w ↦
          subst (λ v. Both marks last (x + 1) (rows_of v.items)) (sym w.rows-is)
          (record {
            only = c.loop-x.invariant.only;
            each = pair_skipped marks last x old c.loop-x.invariant.each (sym c.has.ensures ∙ w.if-not-has.false);
          })
    ] in
    record { only = both.only; each = both.each }
