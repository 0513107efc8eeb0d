use Rattle.std.proofs.Common.{inl, inr, refl}
use Rattle.hack_plan.proofs.versions.in_range.Goals as goal
use Rattle.hack_plan.proofs.versions.in_range.Goals.{else-input-via-then-input+else-have_two, else-input-via-else-input}

pub returns-in-Err-clause-err : goal.returns-in-Err-clause-err
returns-in-Err-clause-err c =
    let f = rw c.deref-4.ensures.value at c.in-Err.ensures.err in
    elim f [ inl e ↦ inl e | inr w ↦ inr (inr (inl w)) ]

pub returns-then-have_two-clause-err : goal.returns-then-have_two-clause-err
returns-then-have_two-clause-err c =
    inr (inr (inr (c.if-input.true, (rw c.deref-then-input.ensures.value at c.have_two.ensures).0 c.if-have_two.true, refl)))

pub returns-clause-never : goal.returns-clause-never
returns-clause-never c = λ e w.
    elim w [
      | inl r ↦ (rw (c.deref-2.ensures.value, c.in_ok-owns.ensures, c.deref.ensures.value) at c.in_ok-steps.ensures.never) e r
      | inr x ↦ elim x [
        | inl g ↦ (rw c.deref-4.ensures.value at c.in-Ok.ensures.never) e g
        | inr t ↦ elim c.else-input.branch [
          | else-input-via-then-input+else-have_two b ↦ let p = (rw b.deref-then-input.ensures.value at b.have_two.ensures).1 t.1 in cc (p, b.if-have_two.false)
          | else-input-via-else-input b ↦ cc (t.0, b.if-input.false)
        ]
      ]
    ]
