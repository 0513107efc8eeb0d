use Rattle.std.proofs.Common.{◌≡◌, ◌≢◌, ◌-◌, ◌∙◌, ℕ, length, get_or, string_bytes, ap, sym, subst, arith}
use Rattle.std.proofs.lemmas.List.{length-map}
use Rattle.hack_journal.specs.Journal.{edit_of}
use Rattle.hack_journal.specs.Rows.{Noted, file_at}
use Rattle.hack_journal.proofs.NoteLemmas.{count_later, last_at}
use Rattle.hack_journal.proofs.RowLemmas.{file_zero}
use Rattle.hack_journal.proofs.notes.Notes.next.Goals as goal

pub index-requires : goal.index-requires
index-requires c =
    let len = count_later (string_bytes c.self.inside.journal) c.self.inside.later.items (length c.self.inside.entries.items) c.self.invariant in
    omega (arith, len, c.self.inside.later.ok.0, c.self.inside.entries.ok.0, c.len-count.ensures)

pub returns-then-count-eq0-clause-path : goal.returns-then-count-eq0-clause-path
returns-then-count-eq0-clause-path c =
    let entries = c.self.inside.entries.items in
    let j = string_bytes c.self.inside.journal in
    let none : 0 ≡ length entries = omega (arith, c.self.inside.entries.ok.0, c.len-count.ensures, c.if-count-eq0.true) in
    let is = c.as_str.ensures.value ∙ sym (file_zero j) ∙ ap (file_at j) (none ∙ sym (length-map entries edit_of)) in
    subst (λ (v : Noted). c.as_str.result.now ≡ file_at v.journal (length v.entries)) c.self.view_is is

pub returns-clause-path : goal.returns-clause-path
returns-clause-path c =
    let entries = c.self.inside.entries.items in
    let later = c.self.inside.later.items in
    let j = string_bytes c.self.inside.journal in
    let count : c.len-count.result ≡ length entries = omega (arith, c.self.inside.entries.ok.0, c.len-count.ensures) in
    let at : c.index.result.now ≡ get_or later (length entries - 1) c.index.result.now = c.index.ensures ∙ ap (λ (n : ℕ). get_or later (n - 1) c.index.result.now) count in
    let some : length entries ≢ 0 = λ none. c.if-count-eq0.false (count ∙ none) in
    let is = c.as_str-2.ensures.value ∙ last_at j later (length entries) c.index.result.now c.self.invariant some at ∙ ap (file_at j) (sym (length-map entries edit_of)) in
    subst (λ (v : Noted). c.as_str-2.result.now ≡ file_at v.journal (length v.entries)) c.self.view_is is
