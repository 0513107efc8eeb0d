use Rattle.std.proofs.Common.{◌≡◌, List, ℕ, ap, inl, inr, sym, subst, string_bytes}
use Rattle.std.proofs.lemmas.Result.{err_from_is_err_and}
use Rattle.hack_base.specs.Names.{names_of}
use Rattle.hack_journal.specs.Journal.{edits_of}
use Rattle.hack_journal.specs.Recovery.{AreChanged, HasEntry}
use Rattle.hack_journal.specs.Internal.{IsFileOfRow, IsFileOrEntry}
use Rattle.hack_journal.specs.Rows.{spot_of}
use Rattle.hack_files.proofs.FailedLemmas.{none_then}
use Rattle.hack_journal.proofs.FailedLemmas.{fault_then, fault_wider}
use Rattle.hack_journal.proofs.NearerLemmas.{nears_beside, nears_removed}
use Rattle.hack_journal.proofs.RecoverLemmas.{changed_along, puts_safe, puts_then_safe}
use Rattle.hack_journal.proofs.RemovalLemmas.{back_but_of}
use Rattle.hack_journal.proofs.RowLemmas.{apart_from}
use Rattle.hack_journal.proofs.recover.take_back.Goals as goal

pub returns-clause-told : goal.returns-clause-told
returns-clause-told g c = λ tells first keeps.
    let j = string_bytes c.args.place.now.journal in
    let es = edits_of c.args.row.now.entries.items in
    let bytes = g.F.Files.bytes_at in
    let is : edits_of c.deref.result.now ≡ es = ap edits_of c.deref.ensures.value in
    let told = rw (is, c.new-paths.ensures.items) at c.in_ok-put_all_back.ensures.told in
    let adds = told tells j first keeps in
    let others = rw c.deref-2.ensures at c.in_ok-remove_files.ensures.others in
    changed_along j first es (bytes c.args.files.now) (bytes c.put_all_back.new.files) (bytes c.remove_files.new.files) (names_of c.put_all_back.new.paths.items) keeps
    (λ q out. others tells q (λ i lt. apart_from j i q out))
    (subst (λ (ps : List (List ℕ)). AreChanged (bytes c.args.files.now) (bytes c.put_all_back.new.files) es ps) (sym adds.added) adds.are)

pub returns-in_err-put_all_back-clause-safe : goal.returns-in_err-put_all_back-clause-safe
returns-in_err-put_all_back-clause-safe g c = λ tells whole first by is.
    let safe = rw (ap edits_of c.deref.ensures.value) at c.in_err-put_all_back.ensures.safe in
    puts_safe (spot_of c.args.place.now) first _ _ _ _ (safe whole (string_bytes c.args.place.now.journal) first by.keeps)

pub returns-in_err-remove_files-clause-safe : goal.returns-in_err-remove_files-clause-safe
returns-in_err-remove_files-clause-safe g c = λ tells whole first by is.
    let s = spot_of c.args.place.now in
    let es = edits_of c.args.row.now.entries.items in
    let bytes = g.F.Files.bytes_at in
    let safe = rw (ap edits_of c.deref.ensures.value) at c.in_ok-put_all_back.ensures.safe in
    let back = rw (ap edits_of c.deref.ensures.value) at c.in_ok-put_all_back.ensures.back in
    let but = back_but_of s first c.args.row.now.count es (bytes c.args.files.now) (bytes c.put_all_back.new.files) by is (back tells) in
    puts_then_safe s first _ _ _ _ _ _ (safe whole s.journal first by.keeps) (c.in_err-remove_files.ensures.safe whole s first (sym c.deref-2.ensures) but)

pub returns-clause-safe : goal.returns-clause-safe
returns-clause-safe g c = λ tells whole first by is.
    let s = spot_of c.args.place.now in
    let es = edits_of c.args.row.now.entries.items in
    let bytes = g.F.Files.bytes_at in
    let safe = rw (ap edits_of c.deref.ensures.value) at c.in_ok-put_all_back.ensures.safe in
    let back = rw (ap edits_of c.deref.ensures.value) at c.in_ok-put_all_back.ensures.back in
    let but = back_but_of s first c.args.row.now.count es (bytes c.args.files.now) (bytes c.put_all_back.new.files) by is (back tells) in
    puts_then_safe s first _ _ _ _ _ _ (safe whole s.journal first by.keeps) (c.in_ok-remove_files.ensures.safe whole s first (sym c.deref-2.ensures) but)

pub returns-clause-calls : goal.returns-clause-calls
returns-clause-calls g c = none_then g.F.Files c.args.files.now c.put_all_back.new.files c.remove_files.new.files c.in_ok-put_all_back.ensures.calls c.in_ok-remove_files.ensures.calls

pub returns-in_err-put_all_back-clause-calls : goal.returns-in_err-put_all_back-clause-calls
returns-in_err-put_all_back-clause-calls g c =
    let es = edits_of c.args.row.now.entries.items in
    let p = err_from_is_err_and c.from_residual.result c.from_residual.ensures.1 in
    let calls = rw (ap edits_of c.deref.ensures.value) at c.in_err-put_all_back.ensures.calls in
    rw (p.1, p.2) (fault_wider g.F.Files (HasEntry es) (IsFileOrEntry (string_bytes c.args.place.now.journal) c.args.row.now.count es) (λ q has. inr has) _ _ _ calls)

pub returns-in_err-remove_files-clause-calls : goal.returns-in_err-remove_files-clause-calls
returns-in_err-remove_files-clause-calls g c =
    let j = string_bytes c.args.place.now.journal in
    let count = c.args.row.now.count in
    let P = IsFileOrEntry j count (edits_of c.args.row.now.entries.items) in
    let p = err_from_is_err_and c.from_residual-in_err-remove_files.result c.from_residual-in_err-remove_files.ensures.1 in
    let calls = rw c.deref-2.ensures at c.in_err-remove_files.ensures.calls in
    rw (p.1, p.2) (fault_then g.F.Files P _ _ _ _ c.in_ok-put_all_back.ensures.calls (fault_wider g.F.Files (IsFileOfRow j count) P (λ q file. inl file) _ _ _ calls))

pub returns-in_err-put_all_back-clause-nearer : goal.returns-in_err-put_all_back-clause-nearer
returns-in_err-put_all_back-clause-nearer g c = λ whole first keeps.
    let j = string_bytes c.args.place.now.journal in
    let safe = rw (ap edits_of c.deref.ensures.value) at c.in_err-put_all_back.ensures.safe in
    nears_beside j c.args.row.now.count first _ _ _ _ (safe whole j first keeps)

pub returns-in_err-remove_files-clause-nearer : goal.returns-in_err-remove_files-clause-nearer
returns-in_err-remove_files-clause-nearer g c = λ whole first keeps.
    let j = string_bytes c.args.place.now.journal in
    let safe = rw (ap edits_of c.deref.ensures.value) at c.in_ok-put_all_back.ensures.safe in
    let besides = rw c.deref-2.ensures at c.in_err-remove_files.ensures.besides in
    nears_removed j c.args.row.now.count first _ _ _ _ _ _ (safe whole j first keeps) (besides whole)

pub returns-clause-nearer : goal.returns-clause-nearer
returns-clause-nearer g c = λ whole first keeps.
    let j = string_bytes c.args.place.now.journal in
    let safe = rw (ap edits_of c.deref.ensures.value) at c.in_ok-put_all_back.ensures.safe in
    let besides = rw c.deref-2.ensures at c.in_ok-remove_files.ensures.besides in
    nears_removed j c.args.row.now.count first _ _ _ _ _ _ (safe whole j first keeps) (besides whole)
