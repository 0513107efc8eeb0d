use Rattle.std.proofs.Common.{arith, ℕ}
use Rattle.std.proofs.lemmas.Result.{IfOk-weaker}
use Rattle.hack_edits.specs.InternalArrays.{IsCommaBehind}
use Rattle.hack_edits.proofs.ArrayLemmas.{some-weaker, one-kept, one-out, cut-last}
use Rattle.hack_edits.proofs.arrays.left_inside.Goals.{in-Some, then-not-here+in_ok-extend_from_slice-in-Some, else-not-here, in-None+else-here}
use Rattle.hack_edits.proofs.arrays.left_inside.Goals as goal

pub returns-then-here : goal.returns-then-here
returns-then-here c =
    IfOk-weaker c.without_last.result _ _ (λ o. some-weaker o _ _ (λ v h. cut-last c.args.inside.now c.loop-here.from c.loop-here.kept.items v.items c.loop-here.invariant.some h)) c.without_last.ensures

pub loop-here-preserved : goal.loop-here-preserved
loop-here-preserved c =
    let inside = c.args.inside.now in
    let from : ℕ = c.loop-here.from in
    elim c.match-branch-2.branch [
      | in-Some w ↦
          let behind : IsCommaBehind inside from w.in-Some.comma = rw w.in-Some.is at c.in_ok-comma.ensures in
          record {
            within = omega (arith, w.from-is, behind.within);
            some = elim w.if-not-here.branch [
              | then-not-here+in_ok-extend_from_slice-in-Some w' ↦
                  rw (w.from-is, w.kept-is, w'.kept-is) (one-kept inside from w.in-Some.comma behind c.loop-here.kept.items w'.extend_from_slice.new.self.items c.loop-here.invariant.some w'.in_ok-extend_from_slice-in-Some.ensures.items)
              | else-not-here w' ↦
                  rw (w.from-is, w.kept-is, w'.kept-is) (one-out inside from w.in-Some.comma behind c.loop-here.kept.items c.loop-here.invariant.some)
            ];
          }
      | in-None+else-here w ↦ record {
        within = omega (arith, w.from-is, c.loop-here.invariant.within);
        some = rw (w.from-is, w.kept-is) c.loop-here.invariant.some;
      }
    ]
