use Rattle.std.proofs.Common.{◌≡◌, ◌∙◌, [], ap, arith, false, inl, inr, sym}
use Rattle.std.proofs.lemmas.Result.{on_ok_weaker, on_err_weaker}
use Rattle.hack_journal.specs.Rows.{is_of_journal}
use Rattle.hack_files.specs.TraceLaws.{makes_none}
use Rattle.hack_journal.specs.RefusingLaws.{grows_none}
use Rattle.hack_journal.specs.SafeLaws.{stays_none, stays_more}
use Rattle.hack_journal.proofs.RefusingLemmas.{counted_below}
use Rattle.hack_journal.proofs.SafeLemmas.{hidden_put, hidden_alone, hidden_or_not, put_or_not_stays, same_or_not_stays, at_either}
use Rattle.hack_files.specs.FailedCalls.{WriteFailed}
use Rattle.hack_base.proofs.Members.{Contains-nil}
use Rattle.hack_files.proofs.FailedLemmas.{write_then}
use Rattle.hack_journal.proofs.FailedLemmas.{fails_refused}
use Rattle.hack_journal.proofs.KeepingLemmas.{cause_wider, fails_then, fails_write, refuses_others}
use Rattle.hack_journal.proofs.journaled.Journaled.change.Goals as goal

pub returns-then-is_of_journal-clause-cause : goal.returns-then-is_of_journal-clause-cause
returns-then-is_of_journal-clause-cause g c = inl (inl (sym c.is_of_journal.ensures ∙ c.if-is_of_journal.true))

pub returns-in-Err-clause-cause : goal.returns-in-Err-clause-cause
returns-in-Err-clause-cause g c = cause_wider _ _ c.in-Err.fault (λ h. inl (inr h)) c.in-Err.ensures.why

pub returns-then-is_of_journal-clause-unkept : goal.returns-then-is_of_journal-clause-unkept
returns-then-is_of_journal-clause-unkept g c = inr (
  inl (sym c.is_of_journal.ensures ∙ c.if-is_of_journal.true),
  rw c.of.ensures.path at c.note.ensures.path,
  ([], g.F.Files.refuses_none c.args.self.now.files, Contains-nil c.args.path.now),
  λ whole. makes_none _ _,
)

pub returns-in-Err-clause-unkept : goal.returns-in-Err-clause-unkept
returns-in-Err-clause-unkept g c =
    let s = c.args.self.now in
    let out : is_of_journal s.notes.journal c.args.path.now ≡ false = sym c.is_of_journal.ensures ∙ c.if-is_of_journal.false in
    inr (
      cause_wider _ _ c.in-Err.fault inr c.in-Err.ensures.why,
      rw (c.of-in-Err.ensures.path, ap (λ s. s.unkept) c.in-Err.ensures.rest) at c.note-in-Err.ensures.path,
      refuses_others g.F.Files s.notes c.args.path.now s.files c.keep.new.self.files out c.in-Err.ensures.refused,
      λ whole. hidden_alone _ _ _ _ _ (c.in-Err.ensures.hidden whole),
    )

pub returns-in-Ok-clause-cause : goal.returns-in-Ok-clause-cause
returns-in-Ok-clause-cause g c =
    let s = c.args.self.now in
    let path = c.args.path.now in
    fails_then g.F.Files (WriteFailed g.F.Files path c.keep.new.self.files c.overwrite.new.self) _ c.overwrite.result s.files c.keep.new.self.files c.overwrite.new.self c.in-Ok.ensures.why
    (λ h. inr (write_then g.F.Files path s.files c.keep.new.self.files c.overwrite.new.self c.in-Ok.ensures.why h)) (fails_write g.F.Files path c.overwrite.result c.keep.new.self.files c.overwrite.new.self (fails_refused g.F.Files path c.overwrite.result c.keep.new.self.files c.overwrite.new.self c.overwrite.ensures.unseen_none c.overwrite.ensures.refused_path))

pub returns-then-is_of_journal-clause-stays : goal.returns-then-is_of_journal-clause-stays
returns-then-is_of_journal-clause-stays g c = λ tells whole. stays_none _ _ _ _ _ _ (makes_none _ _)

pub returns-in-Err-clause-refused : goal.returns-in-Err-clause-refused
returns-in-Err-clause-refused g c = λ whole. inl (hidden_alone _ _ _ _ _ (c.in-Err.ensures.hidden whole))

pub returns-in-Ok-clause-handed : goal.returns-in-Ok-clause-handed
returns-in-Ok-clause-handed g c = g.F.Files.stays_more _ _ _ c.in-Ok.ensures.handed c.overwrite.ensures.stays

pub returns-then-is_of_journal-clause-counted : goal.returns-then-is_of_journal-clause-counted
returns-then-is_of_journal-clause-counted g c = record { first = 0; second = 1; one = grows_none _; two = c.note.ensures.told; some = omega arith; once = omega arith }

pub returns-in-Err-clause-counted : goal.returns-in-Err-clause-counted
returns-in-Err-clause-counted g c =
    let below = c.in-Err.ensures.below in
    record { first = below.0; second = 1; one = below.1; two = rw (ap (λ s. s.unkept) c.in-Err.ensures.rest) at c.note-in-Err.ensures.told; some = omega arith; once = omega arith }

pub returns-in-Ok-clause-counted : goal.returns-in-Ok-clause-counted
returns-in-Ok-clause-counted g c = counted_below c.overwrite.result _ _ _ _ _ c.in-Ok.ensures.below c.overwrite.ensures.counted (ap (λ s. g.U.Unkept.told s.unkept) c.in-Ok.ensures.rest)

pub returns-in-Ok-clause-traced : goal.returns-in-Ok-clause-traced
returns-in-Ok-clause-traced g c =
    let out : is_of_journal c.args.self.now.notes.journal c.args.path.now ≡ false = sym c.is_of_journal.ensures ∙ c.if-is_of_journal.false in
    on_ok_weaker c.overwrite.result (λ makes whole. hidden_put _ _ _ _ _ _ _ _ _ out (c.in-Ok.ensures.hidden whole) (makes whole)) c.overwrite.ensures.traced

pub returns-in-Ok-clause-refused : goal.returns-in-Ok-clause-refused
returns-in-Ok-clause-refused g c =
    let out : is_of_journal c.args.self.now.notes.journal c.args.path.now ≡ false = sym c.is_of_journal.ensures ∙ c.if-is_of_journal.false in
    on_err_weaker c.overwrite.result (λ makes whole. hidden_or_not _ _ _ _ _ _ _ _ _ out (c.in-Ok.ensures.hidden whole) (makes whole)) c.overwrite.ensures.refused

pub returns-in-Ok-clause-stays : goal.returns-in-Ok-clause-stays
returns-in-Ok-clause-stays g c = λ tells whole.
    let out : is_of_journal c.args.self.now.notes.journal c.args.path.now ≡ false = sym c.is_of_journal.ensures ∙ c.if-is_of_journal.false in
    let makes = at_either c.overwrite.result _ _ _ _ _ c.overwrite.ensures.traced c.overwrite.ensures.refused whole in
    let told = rw c.in-Ok.is at c.keep.ensures.told in
    stays_more _ _ _ _ _ _ _ _ _ _ (c.in-Ok.ensures.stays out tells whole) (elim (told tells) [
      | inl has ↦ put_or_not_stays _ _ _ _ _ _ _ _ out has makes
      | inr holds ↦ same_or_not_stays _ _ _ _ _ _ _ _ holds makes
    ])

pub returns-then-is_of_journal-clause-refused : goal.returns-then-is_of_journal-clause-refused
returns-then-is_of_journal-clause-refused g c = λ whole. inl (makes_none _ _)
