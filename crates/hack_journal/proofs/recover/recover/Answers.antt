use Rattle.std.proofs.Common.{◌∙◌, ap, [], inl, inr, subst}
use Rattle.std.specs.Prelude.{IsSome}
use Rattle.std.proofs.lemmas.Bool.{false≢true}
use Rattle.std.proofs.lemmas.Result.{err_from_is_err_and, IfErr-weaker}
use Rattle.hack_base.specs.Names.{names_of}
use Rattle.hack_journal.specs.Journal.{edits_of}
use Rattle.hack_journal.specs.Rows.{spot_of}
use Rattle.hack_journal.specs.Internal.{IsFileOrEntry}
use Rattle.hack_journal.specs.Recovery.{HasEntry, IsJournalOrItsEntry, IsReached}
use Rattle.hack_files.proofs.FailedLemmas.{none_then}
use Rattle.hack_journal.proofs.FailedLemmas.{ends_then, ends_wider, fault_then, fault_wider}
use Rattle.hack_files.specs.TraceLaws.{makes_more}
use Rattle.hack_journal.specs.SafeLaws.{stay_none}
use Rattle.hack_journal.proofs.FinishLemmas.{all_same}
use Rattle.hack_journal.proofs.NearerLemmas.{nearer_by, nearer_still}
use Rattle.hack_journal.proofs.RowLemmas.{row_of}
use Rattle.hack_journal.proofs.RecoverLemmas.{looked_puts, never_cut_no_journal, puts_stay, safe_at, safe_cut, safe_told, why_unread, file_or_entry, why_failed, why_not_told, never_not_told, told_at, restored_of, comes_back_of, on_err_always, on_three, on_two, safe_none}
use Rattle.hack_journal.proofs.recover.recover.Goals as goal

pub returns-in_err-row-clause-why : goal.returns-in_err-row-clause-why
returns-in_err-row-clause-why g c =
    let p = err_from_is_err_and c.from_residual.result c.from_residual.ensures.1 in
    rw (p.1, p.2) (why_unread (spot_of c.args.place.now) g.F.Files.tells (g.F.Files.bytes_at c.args.files.now) _ c.in_err-row.ensures.why)

pub returns-in_err-row-clause-never : goal.returns-in_err-row-clause-never
returns-in_err-row-clause-never g c =
    let p = err_from_is_err_and c.from_residual.result c.from_residual.ensures.1 in
    rw (p.1, p.2) (λ refusal tells first safe. never_cut_no_journal (spot_of c.args.place.now) g.F.Files.tells first (g.F.Files.bytes_at c.args.files.now) _ tells c.in_err-row.ensures.why safe refusal)

pub returns-in_default-clause-comes_back : goal.returns-in_default-clause-comes_back
returns-in_default-clause-comes_back g c = λ tells first safe.
    safe_none (spot_of c.args.place.now) first (g.F.Files.bytes_at c.args.files.now) (g.F.Files.bytes_at c.row_at.new.files) safe (c.in_ok-row.ensures.none c.in_default.is tells) (c.in_ok-row.ensures.same tells)

pub returns-in_err-check_all-clause-never : goal.returns-in_err-check_all-clause-never
returns-in_err-check_all-clause-never g c =
    let s = spot_of c.args.place.now in
    let es = edits_of c.in-Some.row.entries.items in
    let old = g.F.Files.bytes_at c.args.files.now in
    let p = err_from_is_err_and c.from_residual-in_err-check_all.result c.from_residual-in_err-check_all.ensures.1 in
    let why = rw (c.deref.ensures, c.deref-2.ensures.value, c.deref-3.ensures.value) at c.in_err-check_all.ensures.why in
    rw (p.1, p.2) (λ refusal tells first safe.
    let by = safe_at s first c.in-Some.row.count es old safe (c.in_ok-row.ensures.some c.in-Some.row c.in-Some.is tells) in
    never_not_told s.journal g.F.Files.tells es old (g.F.Files.bytes_at c.row_at.new.files) _ tells (c.in_ok-row.ensures.same tells) (safe_told s first es old by.0) why refusal)

pub returns-in_err-check_all-clause-why : goal.returns-in_err-check_all-clause-why
returns-in_err-check_all-clause-why g c =
    let s = spot_of c.args.place.now in
    let es = edits_of c.in-Some.row.entries.items in
    let p = err_from_is_err_and c.from_residual-in_err-check_all.result c.from_residual-in_err-check_all.ensures.1 in
    let why = rw (c.deref.ensures, c.deref-2.ensures.value, c.deref-3.ensures.value) at c.in_err-check_all.ensures.why in
    rw (p.1, p.2) (why_not_told s g.F.Files.tells es (g.F.Files.bytes_at c.args.files.now) (g.F.Files.bytes_at c.row_at.new.files) _
    (λ tells. row_of s (g.F.Files.bytes_at c.args.files.now) c.in-Some.row.count es (c.in_ok-row.ensures.some c.in-Some.row c.in-Some.is tells)) (λ tells. c.in_ok-row.ensures.same tells) why)

pub returns-clause-restored : goal.returns-clause-restored
returns-clause-restored g c =
    let s = spot_of c.args.place.now in
    let row = c.in-Some.row in
    let es = edits_of row.entries.items in
    let bytes = g.F.Files.bytes_at in
    on_three c.take_back.result c.take_back.ensures.back c.take_back.ensures.gone c.take_back.ensures.told (λ paths tells back gone told.
    let one = all_same (bytes c.args.files.now) (bytes c.row_at.new.files) (c.in_ok-row.ensures.same tells) in
    let two = all_same (bytes c.args.files.now) (bytes c.check_all.new.files) (λ q. c.in_ok-check_all.ensures.same tells q ∙ c.in_ok-row.ensures.same tells q) in
    inr (
      es,
      restored_of s row.count es (names_of paths.items) (bytes c.args.files.now) (bytes c.check_all.new.files) (bytes c.take_back.new.files) two (c.in_ok-row.ensures.some row c.in-Some.is tells) (c.in_ok-row.ensures.of_call row c.in-Some.is)
          (told_at (edits_of c.deref-2.result.now) (edits_of c.deref-3.result.now) es (bytes c.args.files.now) (bytes c.row_at.new.files) (ap edits_of c.deref-2.ensures.value) (ap edits_of c.deref-3.ensures.value) one (c.in_ok-check_all.ensures.told tells))
          back gone told,
    ))

pub returns-clause-comes_back : goal.returns-clause-comes_back
returns-clause-comes_back g c =
    let s = spot_of c.args.place.now in
    let row = c.in-Some.row in
    let es = edits_of row.entries.items in
    let bytes = g.F.Files.bytes_at in
    on_two c.take_back.result c.take_back.ensures.back c.take_back.ensures.gone (λ tells back gone first safe.
    let two = all_same (bytes c.args.files.now) (bytes c.check_all.new.files) (λ q. c.in_ok-check_all.ensures.same tells q ∙ c.in_ok-row.ensures.same tells q) in
    let by = safe_at s first row.count es (bytes c.args.files.now) safe (c.in_ok-row.ensures.some row c.in-Some.is tells) in
    comes_back_of s first row.count es (bytes c.args.files.now) (bytes c.check_all.new.files) (bytes c.take_back.new.files) two by.0 by.1 back gone)

pub returns-clause-safe : goal.returns-clause-safe
returns-clause-safe g c = λ tells whole first safe.
    let s = spot_of c.args.place.now in
    let looks = makes_more [] [] _ _ _ _ _ _ (c.in_ok-row.ensures.untraced whole) (c.in_ok-check_all.ensures.untraced whole) in
    puts_stay s first _ _ _ _ (λ now is. is) safe (looked_puts s first c.in-Some.row.count _ _ _ _ _ _ _ (safe_cut s first _ safe) (c.in_ok-row.ensures.some c.in-Some.row c.in-Some.is tells) looks (c.take_back.ensures.safe tells whole first))

pub returns-clause-safe_after_cut : goal.returns-clause-safe_after_cut
returns-clause-safe_after_cut g c = λ tells whole first safe.
    let s = spot_of c.args.place.now in
    let looks = makes_more [] [] _ _ _ _ _ _ (c.in_ok-row.ensures.untraced whole) (c.in_ok-check_all.ensures.untraced whole) in
    puts_stay s first _ _ _ _ (safe_cut s first) safe (looked_puts s first c.in-Some.row.count _ _ _ _ _ _ _ safe (c.in_ok-row.ensures.some c.in-Some.row c.in-Some.is tells) looks (c.take_back.ensures.safe tells whole first))

pub returns-clause-why : goal.returns-clause-why
returns-clause-why g c =
    let s = spot_of c.args.place.now in
    let row = c.in-Some.row in
    let es = edits_of row.entries.items in
    let m = g.F.Files.bytes_at c.args.files.now in
    why_failed g.F.Files s m c.take_back.result c.check_all.new.files c.take_back.new.files c.take_back.ensures.fault
    (ends_wider g.F.Files (IsFileOrEntry s.journal row.count es) (IsJournalOrItsEntry s g.F.Files.tells m) (file_or_entry s g.F.Files.tells row.count es m (c.in_ok-row.ensures.some row c.in-Some.is)) c.take_back.result _ _ c.take_back.ensures.calls)

pub returns-in_err-row-clause-calls : goal.returns-in_err-row-clause-calls
returns-in_err-row-clause-calls g c =
    let s = spot_of c.args.place.now in
    let m = g.F.Files.bytes_at c.args.files.now in
    let p = err_from_is_err_and c.from_residual.result c.from_residual.ensures.1 in
    rw (p.1, p.2) (fault_wider g.F.Files (IsReached s g.F.Files.tells m) (IsJournalOrItsEntry s g.F.Files.tells m) (λ q is. inl is) _ _ _ c.in_err-row.ensures.calls)

pub returns-in_err-check_all-clause-calls : goal.returns-in_err-check_all-clause-calls
returns-in_err-check_all-clause-calls g c =
    let s = spot_of c.args.place.now in
    let row = c.in-Some.row in
    let es = edits_of row.entries.items in
    let m = g.F.Files.bytes_at c.args.files.now in
    let p = err_from_is_err_and c.from_residual-in_err-check_all.result c.from_residual-in_err-check_all.ensures.1 in
    let calls = rw c.deref-3.ensures.value at c.in_err-check_all.ensures.calls in
    rw (p.1, p.2) (fault_then g.F.Files (IsJournalOrItsEntry s g.F.Files.tells m) _ _ _ _ c.in_ok-row.ensures.calls
    (fault_wider g.F.Files (HasEntry es) (IsJournalOrItsEntry s g.F.Files.tells m) (λ q has. inr (λ tells. (es, row_of s m row.count es (c.in_ok-row.ensures.some row c.in-Some.is tells), has))) _ _ _ calls))

pub returns-clause-calls : goal.returns-clause-calls
returns-clause-calls g c =
    let s = spot_of c.args.place.now in
    let row = c.in-Some.row in
    let es = edits_of row.entries.items in
    let m = g.F.Files.bytes_at c.args.files.now in
    let P = IsJournalOrItsEntry s g.F.Files.tells m in
    ends_then g.F.Files P c.take_back.result c.args.files.now c.check_all.new.files c.take_back.new.files
    (none_then g.F.Files c.args.files.now c.row_at.new.files c.check_all.new.files c.in_ok-row.ensures.calls c.in_ok-check_all.ensures.calls)
    (ends_wider g.F.Files (IsFileOrEntry s.journal row.count es) P (file_or_entry s g.F.Files.tells row.count es m (c.in_ok-row.ensures.some row c.in-Some.is)) c.take_back.result _ _ c.take_back.ensures.calls)

pub returns-in_err-check_all-clause-still : goal.returns-in_err-check_all-clause-still
returns-in_err-check_all-clause-still g c = λ tells whole none. absurd (false≢true (subst IsSome none (c.in_ok-row.ensures.there c.in-Some.row c.in-Some.is tells)))

pub returns-clause-still : goal.returns-clause-still
returns-clause-still g c = λ tells whole none. absurd (false≢true (subst IsSome none (c.in_ok-row.ensures.there c.in-Some.row c.in-Some.is tells)))

pub returns-clause-spared : goal.returns-clause-spared
returns-clause-spared g c =
    let row = c.in-Some.row in
    let es = edits_of row.entries.items in
    let bytes = g.F.Files.bytes_at in
    on_err_always c.take_back.result (λ tells.
    let one = all_same (bytes c.args.files.now) (bytes c.row_at.new.files) (c.in_ok-row.ensures.same tells) in
    let read = c.in_ok-row.ensures.some row c.in-Some.is tells in
    inr (
      es,
      record { count = row.count; files = read.files.files; ends = read.ends },
      told_at (edits_of c.deref-2.result.now) (edits_of c.deref-3.result.now) es (bytes c.args.files.now) (bytes c.row_at.new.files) (ap edits_of c.deref-2.ensures.value) (ap edits_of c.deref-3.ensures.value) one (c.in_ok-check_all.ensures.told tells),
      λ q beside none. c.take_back.ensures.others tells q beside none ∙ (c.in_ok-check_all.ensures.same tells q ∙ c.in_ok-row.ensures.same tells q),
    ))

pub returns-clause-refused : goal.returns-clause-refused
returns-clause-refused g c = IfErr-weaker c.take_back.result _ _ (λ fault not refusal. absurd (not refusal)) c.take_back.ensures.fault

pub returns-clause-never : goal.returns-clause-never
returns-clause-never g c = IfErr-weaker c.take_back.result _ _ (λ fault not refusal. absurd (not refusal)) c.take_back.ensures.fault

pub returns-in_err-check_all-clause-safe : goal.returns-in_err-check_all-clause-safe
returns-in_err-check_all-clause-safe g c = λ tells whole first safe.
    stay_none _ _ _ _ _ (makes_more [] [] _ _ _ _ _ _ (c.in_ok-row.ensures.untraced whole) (c.in_err-check_all.ensures.untraced whole)) safe

pub returns-in_err-check_all-clause-safe_after_cut : goal.returns-in_err-check_all-clause-safe_after_cut
returns-in_err-check_all-clause-safe_after_cut g c = λ tells whole first safe.
    stay_none _ _ _ _ _ (makes_more [] [] _ _ _ _ _ _ (c.in_ok-row.ensures.untraced whole) (c.in_err-check_all.ensures.untraced whole)) safe

pub returns-in_err-row-clause-nearer : goal.returns-in_err-row-clause-nearer
returns-in_err-row-clause-nearer g c = λ tells whole. nearer_still _ _ _ _ _ (c.in_err-row.ensures.untraced whole)

pub returns-in_default-clause-nearer : goal.returns-in_default-clause-nearer
returns-in_default-clause-nearer g c = λ tells whole. nearer_still _ _ _ _ _ (c.in_ok-row.ensures.untraced whole)

pub returns-in_err-check_all-clause-nearer : goal.returns-in_err-check_all-clause-nearer
returns-in_err-check_all-clause-nearer g c = λ tells whole.
    nearer_still _ _ _ _ _ (makes_more [] [] _ _ _ _ _ _ (c.in_ok-row.ensures.untraced whole) (c.in_err-check_all.ensures.untraced whole))

pub returns-clause-nearer : goal.returns-clause-nearer
returns-clause-nearer g c = λ tells whole.
    let row = c.in-Some.row in
    let looks = makes_more [] [] _ _ _ _ _ _ (c.in_ok-row.ensures.untraced whole) (c.in_ok-check_all.ensures.untraced whole) in
    nearer_by (spot_of c.args.place.now) row.count (edits_of row.entries.items) _ _ _ _ _ _ (c.in_ok-row.ensures.some row c.in-Some.is tells) (c.in_ok-row.ensures.of_call row c.in-Some.is) looks (c.take_back.ensures.nearer whole)
