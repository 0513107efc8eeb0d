use Rattle.std.proofs.Common.{◌≡◌, ◌+◌, ◌∙◌, ◌++◌, [], ◌∷◌, length, ap, sym, subst, arith, string_bytes}
use Rattle.std.proofs.lemmas.List.{length-map, length-append}
use Rattle.hack_base.specs.Names.{names_of}
use Rattle.hack_journal.proofs.NoteLemmas.{later_more}
use Rattle.hack_journal.specs.Journal.{edit_of}
use Rattle.hack_journal.specs.Rows.{Noted, file_at}
use Rattle.hack_journal.proofs.notes.Notes.push.Goals as goal

pub invariant_of-self-else-is_err : goal.invariant_of-self-else-is_err
invariant_of-self-else-is_err c =
    let j = string_bytes c.self.inside.journal in
    let entries = c.self.inside.entries.items in
    let named : string_bytes c.args.path ≡ file_at j (length entries + 1) =
    subst (λ (v : Noted). string_bytes c.args.path ≡ file_at v.journal (length v.entries + 1)) (sym c.self.view_is) c.requires ∙ ap (λ n. file_at j (n + 1)) (length-map entries edit_of) in
    let more : length c.push.new.self.items ≡ length entries + 1 = omega (arith, ap length c.in_ok-push.ensures.items, length-append entries (c.args.entry ∷ [])) in
    let later : c.push-2.new.self.items ≡ c.self.inside.later.items ++ c.args.path ∷ [] = rw c.if-is_err.ensures.negation at c.push-2.ensures.items in
    ap names_of later ∙ later_more j c.self.inside.later.items (length entries) (length c.push.new.self.items) c.args.path c.self.invariant named more
