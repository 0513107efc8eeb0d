use Rattle.std.proofs.Common.{◌≡◌, ◌∙◌, ◌++◌, Some, List, ℕ, ap, sym, string_bytes}
use Rattle.hack_journal.specs.Journal.{edits_of}
use Rattle.hack_journal.specs.Rows.{file_at, placed}
use Rattle.hack_journal.proofs.TextLemmas.{text_paths}
use Rattle.hack_journal.proofs.RecoverLemmas.{read_of}
use Rattle.hack_journal.proofs.rows.read_file.Goals as goal

pub returns-in-Ok-clause-some : goal.returns-in-Ok-clause-some
returns-in-Ok-clause-some g c = λ there tells.
    let bytes = g.F.Files.bytes_at c.args.files.now in
    let path = c.deref-2.ensures ∙ c.in_ok-path.ensures ∙ ap (λ (j : List ℕ). file_at j c.args.number) c.deref.ensures in
    let held : bytes c.deref-2.result.now ≡ Some c.in-Ok-Some.text.items = (let h = rw c.in-Ok-Some.field-0-is at c.in-Ok-Some.ensures in h.held tells) in
    let text = c.deref-in-Ok-Some.ensures.value in
    record {
      es = placed (string_bytes c.args.place.now.folder) (edits_of c.in-Ok.raw.items);
      read = read_of (string_bytes c.args.place.now.folder) (bytes (file_at (string_bytes c.args.place.now.journal) c.args.number)) c.in-Ok-Some.text.items (edits_of c.in-Ok.raw.items) (text_paths c.in-Ok.raw.items)
          (ap bytes (sym path) ∙ held) (sym text ∙ c.in-Ok.ensures.found) (λ fs paths is. c.in-Ok.ensures.only fs paths (text ∙ is));
      added = c.in_ok-place_all-in-Ok.ensures ∙ ap (λ (f : List ℕ). edits_of c.args.entries.now.items ++ placed f (edits_of c.in-Ok.raw.items)) c.deref-in-Ok.ensures;
    }
