use Rattle.std.proofs.Common.{◌≡◌, List, ℕ, IfOk, ap, ◌∙◌, sym, subst, string_bytes}
use Rattle.hack_journal.specs.Rows.{file_at}
use Rattle.hack_journal.proofs.RowLemmas.{file_zero, file_later}
use Rattle.hack_journal.proofs.place.file_of.Goals as goal

pub returns-then-number-eq0 : goal.returns-then-number-eq0
returns-then-number-eq0 c =
    let P : List ℕ → Type 0 = λ l. IfOk c.from_str.result (λ t. string_bytes t ≡ l) in
    subst P (sym (ap (file_at c.args.journal.now) c.if-number-eq0.true ∙ file_zero c.args.journal.now)) c.from_str.ensures.ok

pub returns : goal.returns
returns c =
    let P : List ℕ → Type 0 = λ l. IfOk c.format.result (λ t. string_bytes t ≡ l) in
    subst P (sym (file_later c.args.journal.now c.args.number c.if-number-eq0.false)) c.format.ensures.ok
