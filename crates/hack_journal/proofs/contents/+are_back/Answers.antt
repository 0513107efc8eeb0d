use Rattle.std.proofs.Common.{◌≡◌, ◌∷◌, ◌-◌, List, drop, length, subst, sym, take}
use Rattle.hack_journal.specs.FailedCalls.{FailsUnseen}
use Rattle.hack_journal.specs.Journal.{edit_of, edits_of}
use Rattle.hack_journal.specs.Recovery.{HasEntry}
use Rattle.hack_journal.specs.declared.journal.Entry.{Entry}
use Rattle.hack_journal.proofs.FailedLemmas.{rest_is, unseen_rest}
use Rattle.hack_journal.proofs.contents.+are_back.Goals as goal

pub returns-then-branch-clause-unseen : goal.returns-then-branch-clause-unseen
returns-then-branch-clause-unseen g t c =
    let rest = take (length c.args.entries.now - 1) (drop 1 c.args.entries.now) in
    let e : c.args.entries.now ≡ c.entry-item.result ∷ rest = rest_is c.args.entries.now c.entry-item.result c.in-len1-up.len_at_least c.entry-item.is in
    subst (λ (l : List Entry). FailsUnseen g.F.Files (HasEntry (edits_of l)) c.args.files.now c.are_back.new.files c.are_back.result) (sym e)
    (unseen_rest g.F.Files (edit_of c.entry-item.result) (edits_of rest) c.are_back.result c.args.files.now c.is_back.new.files c.are_back.new.files c.in_ok-is_back-in-len1-up.ensures.unseen c.are_back.ensures.unseen)
