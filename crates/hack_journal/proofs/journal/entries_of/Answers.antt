use Rattle.std.proofs.Common.{◌∷◌, ◌++◌, [], ap, sym, ◌∙◌, append_assoc, append-nil, codes}
use Rattle.std.proofs.lemmas.List.{map-append}
use Rattle.std.proofs.lemmas.Result.{err_from_is_err_and}
use Rattle.std.specs.Str.{bytes_eq}
use Rattle.std.specs.Prelude.{not}
use Rattle.hack_journal.specs.Journal.{Edit, edits_text, edit_of, edits_of}
use Rattle.hack_journal.proofs.TextLemmas.{differ_of, same_of, next_entries, one_more, at_end}
use Rattle.hack_journal.proofs.journal.entries_of.Goals as goal

pub returns-in_err-entry : goal.returns-in_err-entry
returns-in_err-entry c = λ entries texts h.
    let so = c.loop-left.invariant entries texts h in
    let one = one_more c.loop-left.left.now so.0 so.1 so.3 (differ_of c.ne.result c.loop-left.left.now (codes "end\n") (c.ne.ensures ∙ ap (λ x. not (bytes_eq c.loop-left.left.now x)) c.as_slice.ensures) c.loop-left-test.true) in
    let p = err_from_is_err_and c.from_residual.result c.from_residual.ensures.1 in
    rw (p.1, p.2) (c.in_err-entry.ensures.only one.entry (edits_text one.others) one.utf8 (next_entries one.others) one.text)

pub loop-left-preserved : goal.loop-left-preserved
loop-left-preserved c = λ entries texts h.
    let so = c.loop-left.invariant entries texts h in
    let one = one_more c.loop-left.left.now so.0 so.1 so.3 (differ_of c.ne.result c.loop-left.left.now (codes "end\n") (c.ne.ensures ∙ ap (λ x. not (bytes_eq c.loop-left.left.now x)) c.as_slice.ensures) c.loop-left-test.true) in
    let read = c.in_ok-entry.ensures.only one.entry (edits_text one.others) one.utf8 (next_entries one.others) one.text in (
      one.others,
      one.texts,
      so.2 ∙ ap (λ m. edits_of c.loop-left.entries.items ++ m) one.is
          ∙ ap (λ (e : Edit). edits_of c.loop-left.entries.items ++ (e ∷ one.others)) (sym (ap (λ x. x.0) read))
          ∙ sym (append_assoc (edits_of c.loop-left.entries.items) (edit_of c.in_ok-entry.entry ∷ []) one.others)
          ∙ ap (λ v. v ++ one.others) (sym (ap edits_of c.in_ok-push.ensures.items ∙ map-append edit_of c.loop-left.entries.items (c.in_ok-entry.entry ∷ []))),
      ap (λ x. x.1) read,
    )

pub returns : goal.returns
returns c = λ entries texts h.
    let so = c.loop-left.invariant entries texts h in
    let none = at_end c.loop-left.left.now so.0 so.3 (same_of c.ne.result c.loop-left.left.now (codes "end\n") (c.ne.ensures ∙ ap (λ x. not (bytes_eq c.loop-left.left.now x)) c.as_slice.ensures) c.loop-left-test.false) in
    sym (so.2 ∙ ap (λ m. edits_of c.loop-left.entries.items ++ m) none ∙ append-nil (edits_of c.loop-left.entries.items))
