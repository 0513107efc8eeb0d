use Rattle.std.proofs.Common.{◌∙◌, ap, arith, sym, subst}
use Rattle.std.proofs.lemmas.Result.{err_from_is_err_and}
use Rattle.hack_files.specs.Files.{Contents}
use Rattle.hack_journal.specs.SafeFiles.{AreBack}
use Rattle.hack_journal.specs.SafeLaws.{stays_none, stays_more}
use Rattle.hack_files.proofs.FailedLemmas.{none_then}
use Rattle.hack_journal.proofs.FailedLemmas.{cannot_look, cannot_remove}
use Rattle.hack_journal.proofs.FinishLemmas.{absent_first, all_same, finish_stays, none_of, only_looked, only_then, removed_first}
use Rattle.hack_journal.proofs.RowLemmas.{file_zero}
use Rattle.hack_journal.specs.FileCalls.{spot_in}
use Rattle.hack_journal.proofs.journaled.Journaled.finish.Goals as goal

pub returns-in_err-counted-clause-only : goal.returns-in_err-counted-clause-only
returns-in_err-counted-clause-only g c = λ whole. only_looked _ _ _ _ _ (c.exists-there.ensures.untraced whole)

pub returns-then-not-branch-clause-only : goal.returns-then-not-branch-clause-only
returns-then-not-branch-clause-only g c = λ whole. only_looked _ _ _ _ _ (c.exists-there.ensures.untraced whole)

pub returns-in_err-counted-2-clause-only : goal.returns-in_err-counted-2-clause-only
returns-in_err-counted-2-clause-only g c = λ whole. only_then _ _ _ _ _ _ _ (only_looked _ _ _ _ _ (c.exists-there.ensures.untraced whole)) (only_looked _ _ _ _ _ (c.are_back-back.ensures.untraced whole))

pub returns-then-not-branch-2-clause-only : goal.returns-then-not-branch-2-clause-only
returns-then-not-branch-2-clause-only g c = λ whole. only_then _ _ _ _ _ _ _ (only_looked _ _ _ _ _ (c.exists-there.ensures.untraced whole)) (only_looked _ _ _ _ _ (c.are_back-back.ensures.untraced whole))

pub returns-in_err-counted-3-clause-only : goal.returns-in_err-counted-3-clause-only
returns-in_err-counted-3-clause-only g c = λ whole. only_then _ _ _ _ _ _ _ (only_looked _ _ _ _ _ (c.exists-there.ensures.untraced whole)) (only_then _ _ _ _ _ _ _ (only_looked _ _ _ _ _ (c.are_back-back.ensures.untraced whole)) (c.remove_row-removed.ensures.only whole))

pub returns-clause-only : goal.returns-clause-only
returns-clause-only g c = λ whole. only_then _ _ _ _ _ _ _ (only_looked _ _ _ _ _ (c.exists-there.ensures.untraced whole)) (only_then _ _ _ _ _ _ _ (only_looked _ _ _ _ _ (c.are_back-back.ensures.untraced whole)) (c.remove_row-removed.ensures.only whole))

pub returns-in_err-counted-clause-stays : goal.returns-in_err-counted-clause-stays
returns-in_err-counted-clause-stays g c = λ tells whole. stays_none _ _ _ _ _ _ (c.exists-there.ensures.untraced whole)

pub returns-then-not-branch-clause-stays : goal.returns-then-not-branch-clause-stays
returns-then-not-branch-clause-stays g c = λ tells whole. stays_none _ _ _ _ _ _ (c.exists-there.ensures.untraced whole)

pub returns-in_err-counted-2-clause-stays : goal.returns-in_err-counted-2-clause-stays
returns-in_err-counted-2-clause-stays g c = λ tells whole. stays_more _ _ _ _ _ _ _ _ _ _ (stays_none _ _ _ _ _ _ (c.exists-there.ensures.untraced whole)) (stays_none _ _ _ _ _ _ (c.are_back-back.ensures.untraced whole))

pub returns-then-not-branch-2-clause-stays : goal.returns-then-not-branch-2-clause-stays
returns-then-not-branch-2-clause-stays g c = λ tells whole. stays_more _ _ _ _ _ _ _ _ _ _ (stays_none _ _ _ _ _ _ (c.exists-there.ensures.untraced whole)) (stays_none _ _ _ _ _ _ (c.are_back-back.ensures.untraced whole))

pub returns-in_err-counted-3-clause-handed : goal.returns-in_err-counted-3-clause-handed
returns-in_err-counted-3-clause-handed g c = g.F.Files.stays_more _ _ _ c.exists-there.ensures.stays (g.F.Files.stays_more _ _ _ c.are_back-back.ensures.stays c.remove_row-removed.ensures.handed)

pub returns-clause-handed : goal.returns-clause-handed
returns-clause-handed g c = g.F.Files.stays_more _ _ _ c.exists-there.ensures.stays (g.F.Files.stays_more _ _ _ c.are_back-back.ensures.stays c.remove_row-removed.ensures.handed)

pub returns-in_err-counted-3-clause-stays : goal.returns-in_err-counted-3-clause-stays
returns-in_err-counted-3-clause-stays g c = λ tells whole.
    let s = c.args.self.now in
    let back = rw (sym c.in_ok-counted-2.ensures.same) at c.are_back-back.ensures.back in
    let all : AreBack s.notes.entries (g.F.Files.bytes_at c.exists-there.new.self) = rw c.entries.ensures at ((back tells).0 c.if-not-branch-2.false) in
    finish_stays (spot_in s) s.notes.entries c.remove_row-removed.new.self.notes.entries _ _ _ _ _ _ _ _ (c.exists-there.ensures.untraced whole) (c.are_back-back.ensures.untraced whole) all (c.remove_row-removed.ensures.stays tells whole)

pub returns-clause-stays : goal.returns-clause-stays
returns-clause-stays g c = λ tells whole.
    let s = c.args.self.now in
    let back = rw (sym c.in_ok-counted-2.ensures.same) at c.are_back-back.ensures.back in
    let all : AreBack s.notes.entries (g.F.Files.bytes_at c.exists-there.new.self) = rw c.entries.ensures at ((back tells).0 c.if-not-branch-2.false) in
    finish_stays (spot_in s) s.notes.entries c.remove_row-removed.new.self.notes.entries _ _ _ _ _ _ _ _ (c.exists-there.ensures.untraced whole) (c.are_back-back.ensures.untraced whole) all (c.remove_row-removed.ensures.stays tells whole)

pub returns-then-not-branch-clause-back : goal.returns-then-not-branch-clause-back
returns-then-not-branch-clause-back g c = λ gone tells first journaled.
    let s = c.args.self.now in
    let there = rw (sym c.in_ok-counted.ensures.same, c.journal.ensures) at c.exists-there.ensures.there in
    absent_first (spot_in s) first s.notes.entries (g.F.Files.bytes_at s.files) (g.F.Files.bytes_at c.exists-there.new.self) journaled (none_of _ _ (there tells) c.if-not-branch.true) (c.exists-there.ensures.same tells)

pub returns-clause-gone : goal.returns-clause-gone
returns-clause-gone g c = λ gone tells.
    let j = c.args.self.now.notes.journal in
    let none = rw (sym c.in_ok-counted-3.ensures.same) at c.remove_row-removed.ensures.gone in
    ap (g.F.Files.bytes_at c.remove_row-removed.new.self.files) (sym (file_zero j)) ∙ none tells 0 (omega arith)

pub returns-clause-back : goal.returns-clause-back
returns-clause-back g c = λ gone tells first journaled.
    let s = c.args.self.now in
    let old = g.F.Files.bytes_at s.files in
    let none = rw (sym c.in_ok-counted-3.ensures.same) at c.remove_row-removed.ensures.gone in
    let back = rw (sym c.in_ok-counted-2.ensures.same, c.entries.ensures) at c.are_back-back.ensures.back in
    let all : AreBack s.notes.entries old = subst (λ (m : Contents). AreBack s.notes.entries m) (all_same _ _ (c.exists-there.ensures.same tells)) ((back tells).0 c.if-not-branch-2.false) in
    removed_first (spot_in s) first s.notes.entries old (g.F.Files.bytes_at c.remove_row-removed.new.self.files) journaled all (none tells)
    (λ q beside. c.remove_row-removed.ensures.others tells q beside ∙ c.are_back-back.ensures.same tells q ∙ c.exists-there.ensures.same tells q)

pub returns-in_err-counted-2-clause-why : goal.returns-in_err-counted-2-clause-why
returns-in_err-counted-2-clause-why g c =
    let s = c.args.self.now in
    let p = err_from_is_err_and c.from_residual-in_err-counted-2.result c.from_residual-in_err-counted-2.ensures.1 in
    let seen = rw (sym c.in_ok-counted.ensures.same) at c.exists-there.ensures.unseen_path in
    let failed = rw (sym c.in_err-counted-2.ensures.same, c.entries.ensures) at c.are_back-back.ensures.unseen in
    rw p.1 (cannot_look g.F.Files s.notes s.files c.exists-there.new.self c.are_back-back.new.files (record { unseen = seen; refused = c.exists-there.ensures.refused_none }) failed)

pub returns-then-not-branch-2-clause-why : goal.returns-then-not-branch-2-clause-why
returns-then-not-branch-2-clause-why g c =
    let s = c.args.self.now in
    let seen = rw (sym c.in_ok-counted.ensures.same) at c.exists-there.ensures.unseen_path in
    let unseen = rw (sym c.in_ok-counted-2.ensures.same) at c.are_back-back.ensures.unseen in
    none_then g.F.Files s.files c.exists-there.new.self c.are_back-back.new.files (record { unseen = seen; refused = c.exists-there.ensures.refused_none }) unseen

pub returns-in_err-counted-3-clause-why : goal.returns-in_err-counted-3-clause-why
returns-in_err-counted-3-clause-why g c =
    let s = c.args.self.now in
    let p = err_from_is_err_and c.from_residual-in_err-counted-3.result c.from_residual-in_err-counted-3.ensures.1 in
    let seen = rw (sym c.in_ok-counted.ensures.same) at c.exists-there.ensures.unseen_path in
    let unseen = rw (sym c.in_ok-counted-2.ensures.same) at c.are_back-back.ensures.unseen in
    let failed = rw (sym c.in_err-counted-3.ensures.same) at c.remove_row-removed.ensures.row in
    rw p.1 (cannot_remove g.F.Files s.notes s.files c.are_back-back.new.files c.remove_row-removed.new.self.files
    (none_then g.F.Files s.files c.exists-there.new.self c.are_back-back.new.files (record { unseen = seen; refused = c.exists-there.ensures.refused_none }) unseen) failed)

pub returns-clause-why : goal.returns-clause-why
returns-clause-why g c =
    let s = c.args.self.now in
    let seen = rw (sym c.in_ok-counted.ensures.same) at c.exists-there.ensures.unseen_path in
    let unseen = rw (sym c.in_ok-counted-2.ensures.same) at c.are_back-back.ensures.unseen in
    let removed = rw (sym c.in_ok-counted-3.ensures.same) at c.remove_row-removed.ensures.row in
    none_then g.F.Files s.files c.are_back-back.new.files c.remove_row-removed.new.self.files
    (none_then g.F.Files s.files c.exists-there.new.self c.are_back-back.new.files (record { unseen = seen; refused = c.exists-there.ensures.refused_none }) unseen) removed
