use Rattle.std.proofs.Common.{sym, subst, string_bytes}
use Rattle.hack_journal.specs.Rows.{Noted}
use Rattle.hack_journal.specs.SafeFiles.{IsJournaled}
use Rattle.hack_journal.proofs.SafeLemmas.{journaled_begun}
use Rattle.hack_journal.proofs.journaled.Journaled.new.Goals as goal

pub returns-clause-begun : goal.returns-clause-begun
returns-clause-begun g c = λ none.
    subst (λ (n : Noted). IsJournaled (record { folder = string_bytes c.args.place.folder; journal = n.journal }) (g.F.Files.bytes_at c.args.files) n.entries (g.F.Files.bytes_at c.args.files)) (sym c.new.ensures)
    (journaled_begun (record { folder = string_bytes c.args.place.folder; journal = string_bytes c.args.place.journal }) (g.F.Files.bytes_at c.args.files) none)
