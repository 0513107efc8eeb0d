use Rattle.std.proofs.Common.{if◌then◌else◌, ◌≡◌, ◌∙◌, Some, ap, refl, rules, sym}
use Rattle.std.proofs.lemmas.Bool.{false≢true}
use Rattle.std.proofs.lemmas.Result.{on_ok_weaker, on_err_weaker}
use Rattle.hack_files.specs.Files.{puts}
use Rattle.hack_journal.proofs.ApartLemmas.{file_made, file_or_not, lockfile_made, lockfile_or_not}
use Rattle.hack_journal.proofs.FailedLemmas.{changes_of, puts_of}
use Rattle.hack_journal.proofs.RefusingLemmas.{just_looks, just_refused, other_file, other_lockfile, refused_lockfile, refused_other, both_first, both_second}
use Rattle.hack_journal.specs.RefusingLaws.{notes_same, notes_write}
use Rattle.hack_journal.proofs.apart.ApartFiles.write.Goals.{then-is_lockfile, else-is_lockfile}
use Rattle.hack_journal.proofs.apart.ApartFiles.write.Goals as goal

pub returns-clause-puts : goal.returns-clause-puts
returns-clause-puts g c =
    let same : c.if-is_lockfile.self.failures ≡ c.args.self.now.failures = elim c.if-is_lockfile.branch [ then-is_lockfile w ↦ ap (λ s. s.failures) w.self-is | else-is_lockfile w ↦ ap (λ s. s.failures) w.self-is ] in
    let counted = rw same at c.counted.ensures.counted in
    puts_of _ _ _ _ _ _ (record {
      stays = elim c.if-is_lockfile.branch [
        | then-is_lockfile w ↦ rw w.self-is (g.A.Files.stays_none _, w.write-put.ensures.stays, (λ t q lock. refl), both_second w.write-put.result _ _ _ _ _ w.write-put.ensures.counted (rw w.outcome-is at counted), (λ t q other. w.write-put.ensures.others t q (other_file c.args.path.now q w.if-is_lockfile.ensures other)), rw w.is_err.ensures.value (notes_write g.B.Files _ _ _ w.write-put.result _ w.write-put.ensures.refused_path))
        | else-is_lockfile w ↦ rw w.self-is (w.write-outcome.ensures.stays, g.B.Files.stays_none _, (λ t q lock. w.write-outcome.ensures.others t q (other_lockfile c.args.path.now q w.if-is_lockfile.ensures lock)), both_first w.write-outcome.result _ _ _ _ _ w.write-outcome.ensures.counted (rw w.outcome-is at counted), (λ t q other. refl), notes_same g.B.Files _ _ _ (g.B.Files.refuses_none _))
      ];
      counted = search rules;
      refused_path = elim c.if-is_lockfile.branch [
        | then-is_lockfile w ↦ rw (c.counted.ensures.same, w.outcome-is) (just_refused _ _ w.write-put.result _ _ (rw w.outcome-is at counted) (refused_lockfile g.A.Files g.B.Files _ w.write-put.result _ _ w.if-is_lockfile.ensures w.write-put.ensures.refused_path))
        | else-is_lockfile w ↦ rw (c.counted.ensures.same, w.outcome-is) (just_refused _ _ w.write-outcome.result _ _ (rw w.outcome-is at counted) (refused_other g.A.Files g.B.Files _ w.write-outcome.result _ _ w.if-is_lockfile.ensures w.write-outcome.ensures.refused_path))
      ];
      unseen_none = just_looks _ _ _ _ counted;
      others = search rules;
    })
    (rw c.counted.ensures.same (elim c.if-is_lockfile.branch [
      | then-is_lockfile w ↦ rw (w.self-is, w.outcome-is) (on_ok_weaker w.write-put.result (λ put both. ap (λ b. if b then g.B.Files.bytes_at w.write-put.new.self c.args.path.now else g.A.Files.bytes_at c.args.self.now.files c.args.path.now) (sym w.if-is_lockfile.ensures) ∙ put both.1) w.write-put.ensures.written)
      | else-is_lockfile w ↦ rw (w.self-is, w.outcome-is) (on_ok_weaker w.write-outcome.result (λ put both. ap (λ b. if b then g.B.Files.bytes_at c.args.self.now.lockfiles c.args.path.now else g.A.Files.bytes_at w.write-outcome.new.self c.args.path.now) (sym w.if-is_lockfile.ensures) ∙ put both.0) w.write-outcome.ensures.written)
    ]))
    (rw c.counted.ensures.same (elim c.if-is_lockfile.branch [
      | then-is_lockfile w ↦ rw (w.self-is, w.outcome-is) (on_ok_weaker w.write-put.result (λ makes both. lockfile_made _ _ _ _ _ _ (puts c.args.path.now c.args.bytes.now) w.if-is_lockfile.ensures (makes both.1)) w.write-put.ensures.traced)
      | else-is_lockfile w ↦ rw (w.self-is, w.outcome-is) (on_ok_weaker w.write-outcome.result (λ makes both. file_made _ _ _ _ _ _ (puts c.args.path.now c.args.bytes.now) w.if-is_lockfile.ensures (makes both.0)) w.write-outcome.ensures.traced)
    ]))
    (rw c.counted.ensures.same (elim c.if-is_lockfile.branch [
      | then-is_lockfile w ↦ rw (w.self-is, w.outcome-is) (on_err_weaker w.write-put.result (λ makes both. lockfile_or_not _ _ _ _ _ _ (puts c.args.path.now c.args.bytes.now) w.if-is_lockfile.ensures (makes both.1)) w.write-put.ensures.refused)
      | else-is_lockfile w ↦ rw (w.self-is, w.outcome-is) (on_err_weaker w.write-outcome.result (λ makes both. file_or_not _ _ _ _ _ _ (puts c.args.path.now c.args.bytes.now) w.if-is_lockfile.ensures (makes both.0)) w.write-outcome.ensures.refused)
    ]))

pub returns-clause-below : goal.returns-clause-below
returns-clause-below g c = rw c.counted.ensures.same (elim c.if-is_lockfile.branch [
  | then-is_lockfile w ↦ rw (w.self-is, w.outcome-is) (record {
    files = λ other. absurd (other (sym w.if-is_lockfile.ensures));
    lockfiles = λ lock. puts_of g.B.Files c.args.path.now (Some c.args.bytes.now) w.write-put.result _ _ (changes_of g.B.Files c.args.path.now w.write-put.result _ _ w.write-put.ensures.stays w.write-put.ensures.counted w.write-put.ensures.refused_path w.write-put.ensures.unseen_none w.write-put.ensures.others) w.write-put.ensures.written w.write-put.ensures.traced w.write-put.ensures.refused;
  })
  | else-is_lockfile w ↦ rw (w.self-is, w.outcome-is) (record {
    files = λ other. puts_of g.A.Files c.args.path.now (Some c.args.bytes.now) w.write-outcome.result _ _ (changes_of g.A.Files c.args.path.now w.write-outcome.result _ _ w.write-outcome.ensures.stays w.write-outcome.ensures.counted w.write-outcome.ensures.refused_path w.write-outcome.ensures.unseen_none w.write-outcome.ensures.others) w.write-outcome.ensures.written w.write-outcome.ensures.traced w.write-outcome.ensures.refused;
    lockfiles = λ lock. absurd (false≢true (w.if-is_lockfile.ensures ∙ lock));
  })
])
