use Rattle.std.proofs.Common.{◌≡◌, ◌∙◌, ap, sym, true, string_bytes}
use Rattle.std.proofs.lemmas.Bool.{false≢true}
use Rattle.hack_journal.specs.Rows.{file_at, spot_of}
use Rattle.hack_journal.proofs.RowLemmas.{file_zero}
use Rattle.hack_journal.proofs.RecoverLemmas.{no_call, row_there, why_no_journal}
use Rattle.hack_journal.proofs.rows.row_at.Goals as goal

pub returns-then-count-eq0-clause-none : goal.returns-then-count-eq0-clause-none
returns-then-count-eq0-clause-none g c = λ is tells.
    let bytes = g.F.Files.bytes_at c.args.files.now in
    let j = string_bytes c.args.place.now.journal in
    let ends = (c.in_ok-count.ensures.read tells).ends in
    ap bytes (sym (ap (file_at j) c.if-count-eq0.true ∙ file_zero j)) ∙ ends

pub returns-then-not-are_of_call-clause-why : goal.returns-then-not-are_of_call-clause-why
returns-then-not-are_of_call-clause-why g c =
    let s = spot_of c.args.place.now in
    let named = rw c.deref-then-not-are_of_call.ensures at c.no_journal.ensures.kind in
    why_no_journal s g.F.Files.tells (g.F.Files.bytes_at c.args.files.now) c.no_journal.result named
    (λ tells. no_call s (g.F.Files.bytes_at c.args.files.now) c.in_ok-count.count _ c.if-count-eq0.false (c.in_ok-count.ensures.read tells) (λ call.
    let yes : c.are_of_call.result ≡ true = c.are_of_call.ensures.1 (rw (c.deref.ensures, c.deref-2.ensures.value, c.deref-3.ensures.value) call) in
    false≢true (sym c.if-not-are_of_call.true ∙ yes)))

pub returns-clause-there : goal.returns-clause-there
returns-clause-there g c = λ row is tells. row_there (spot_of c.args.place.now) (g.F.Files.bytes_at c.args.files.now) c.in_ok-count.count _ c.if-count-eq0.false (c.in_ok-count.ensures.read tells)
