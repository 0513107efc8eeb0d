use Rattle.std.proofs.Common.{◌≡◌, ◌+◌, ◌-◌, ◌∙◌, ℕ, Some, ap, sym, arith, length}
use Rattle.hack_session.specs.Schedules.{in_piece, mark}
use Rattle.hack_session.proofs.ScheduleLemmas.{step_past, step_placed}
use Rattle.hack_session.proofs.schedule.step_at.Goals as goal

pub returns-then-place-version-clause-value : goal.returns-then-place-version-clause-value
returns-then-place-version-clause-value c =
    let own : length c.as_slice-preparations.result.now ≡ length c.args.version.now.preparations.items = ap length c.as_slice-preparations.ensures.value in
    step_past (in_piece c.args.piece (length c.args.plan.now.entries)) c.args.version.now c.args.taken (c.args.taken - length c.as_slice-preparations.result.now)
    (omega arith) (ap (λ (n : ℕ). c.args.taken - n) own) c.if-place-version.true

pub returns-clause-value : goal.returns-clause-value
returns-clause-value c =
    let own : length c.as_slice-preparations.result.now ≡ length c.args.version.now.preparations.items = ap length c.as_slice-preparations.ensures.value in
    ap Some (c.mark.ensures ∙ ap (λ (n : ℕ). mark (in_piece c.args.piece n) (c.args.version.now.first + (c.args.taken - length c.as_slice-preparations.result.now))) c.len-total.ensures.value)
    ∙ sym (step_placed (in_piece c.args.piece (length c.args.plan.now.entries)) c.args.version.now c.args.taken (c.args.taken - length c.as_slice-preparations.result.now)
    (omega arith) (ap (λ (n : ℕ). c.args.taken - n) own) c.if-place-version.false)
