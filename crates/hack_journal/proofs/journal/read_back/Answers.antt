use Rattle.std.proofs.Common.{◌≡◌, ap, sym, ◌∙◌}
use Rattle.std.proofs.lemmas.Result.{err_from_is_err_and}
use Rattle.hack_journal.specs.Journal.{edits_text, journal_text, edits_of}
use Rattle.hack_journal.proofs.TextLemmas.{differ_of, text_paths}
use Rattle.hack_journal.proofs.journal.read_back.Goals as goal

pub returns-in_err-rest-clause-only : goal.returns-in_err-rest-clause-only
returns-in_err-rest-clause-only c = λ entries texts h.
    let p = err_from_is_err_and c.from_residual.result c.from_residual.ensures.1 in
    rw (p.1, p.2) (c.in_err-rest.ensures.only (edits_text entries) h)

pub returns-in_err-entries-clause-only : goal.returns-in_err-entries-clause-only
returns-in_err-entries-clause-only c = λ entries texts h.
    let p = err_from_is_err_and c.from_residual-in_err-entries.result c.from_residual-in_err-entries.ensures.1 in
    rw (p.1, p.2) (c.in_err-entries.ensures entries texts (c.in_ok-rest.ensures.only (edits_text entries) h))

pub returns-then-ne-clause-only : goal.returns-then-ne-clause-only
returns-then-ne-clause-only c = λ entries texts h.
    let read : edits_of c.in_ok-entries.entries.items ≡ entries = c.in_ok-entries.ensures entries texts (c.in_ok-rest.ensures.only (edits_text entries) h) in
    let again : c.in_ok-again.again.items ≡ journal_text entries = c.in_ok-again.ensures ∙ ap (λ es. journal_text (edits_of es)) c.deref.ensures.value ∙ ap journal_text read in
    differ_of c.ne.result c.as_slice.result.now c.args.text.now c.ne.ensures c.if-ne.true (c.as_slice.ensures.value ∙ again ∙ sym h)

pub returns-clause-only : goal.returns-clause-only
returns-clause-only c = λ entries texts h. c.in_ok-entries.ensures entries texts (c.in_ok-rest.ensures.only (edits_text entries) h)

pub returns-in_err-rest-clause-back : goal.returns-in_err-rest-clause-back
returns-in_err-rest-clause-back c = λ entries. returns-in_err-rest-clause-only c (edits_of entries) (text_paths entries)

pub returns-in_err-entries-clause-back : goal.returns-in_err-entries-clause-back
returns-in_err-entries-clause-back c = λ entries. returns-in_err-entries-clause-only c (edits_of entries) (text_paths entries)

pub returns-then-ne-clause-back : goal.returns-then-ne-clause-back
returns-then-ne-clause-back c = λ entries. returns-then-ne-clause-only c (edits_of entries) (text_paths entries)

pub returns-clause-back : goal.returns-clause-back
returns-clause-back c = λ entries. returns-clause-only c (edits_of entries) (text_paths entries)
