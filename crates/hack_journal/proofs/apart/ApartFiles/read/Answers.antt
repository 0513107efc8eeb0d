use Rattle.std.proofs.Common.{◌≡◌, ap, refl, rules}
use Rattle.hack_journal.proofs.ApartLemmas.{files_kept, lockfiles_kept}
use Rattle.hack_journal.proofs.RefusingLemmas.{just_looks, read_lockfile, read_other, both_first, both_second}
use Rattle.hack_journal.specs.RefusingLaws.{notes_same}
use Rattle.hack_journal.proofs.apart.ApartFiles.read.Goals.{then-is_lockfile, else-is_lockfile}
use Rattle.hack_journal.proofs.apart.ApartFiles.read.Goals as goal

pub returns-clause-looks : goal.returns-clause-looks
returns-clause-looks g c =
    let same : c.if-is_lockfile.self.failures ≡ c.args.self.now.failures = elim c.if-is_lockfile.branch [ then-is_lockfile w ↦ ap (λ s. s.failures) w.self-is | else-is_lockfile w ↦ ap (λ s. s.failures) w.self-is ] in
    let counted = rw same at c.counted.ensures.counted in
    record {
      stays = elim c.if-is_lockfile.branch [
        | then-is_lockfile w ↦ rw w.self-is (g.A.Files.stays_none _, w.read-outcome.ensures.stays, (λ t q lock. refl), both_second w.read-outcome.result _ _ _ _ _ w.read-outcome.ensures.counted (rw w.outcome-is at counted), (λ t q other. w.read-outcome.ensures.same t q), notes_same g.B.Files _ _ _ w.read-outcome.ensures.refused_none)
        | else-is_lockfile w ↦ rw w.self-is (w.read-outcome-else-is_lockfile.ensures.stays, g.B.Files.stays_none _, (λ t q lock. w.read-outcome-else-is_lockfile.ensures.same t q), both_first w.read-outcome-else-is_lockfile.result _ _ _ _ _ w.read-outcome-else-is_lockfile.ensures.counted (rw w.outcome-is at counted), (λ t q other. refl), notes_same g.B.Files _ _ _ (g.B.Files.refuses_none _))
      ];
      counted = search rules;
      refused_none = just_looks _ _ _ _ counted;
      same = search rules;
      untraced = λ both. elim c.if-is_lockfile.branch [
        | then-is_lockfile w ↦ rw w.self-is (lockfiles_kept _ _ _ _ _ _ (w.read-outcome.ensures.untraced both.1))
        | else-is_lockfile w ↦ rw w.self-is (files_kept _ _ _ _ _ _ (w.read-outcome-else-is_lockfile.ensures.untraced both.0))
      ];
    }

pub returns-clause-unseen : goal.returns-clause-unseen
returns-clause-unseen g c =
    let same : c.if-is_lockfile.self.failures ≡ c.args.self.now.failures = elim c.if-is_lockfile.branch [ then-is_lockfile w ↦ ap (λ s. s.failures) w.self-is | else-is_lockfile w ↦ ap (λ s. s.failures) w.self-is ] in
    let counted = rw same at c.counted.ensures.counted in
    elim c.if-is_lockfile.branch [
      | then-is_lockfile w ↦ rw (c.counted.ensures.same, w.outcome-is) (read_lockfile g.A.Files g.B.Files c.args.path.now w.read-outcome.result (g.A.Files.bytes_at c.args.self.now.files) _ _ _ _ w.if-is_lockfile.ensures (rw w.outcome-is at counted) w.read-outcome.ensures.unseen)
      | else-is_lockfile w ↦ rw (c.counted.ensures.same, w.outcome-is) (read_other g.A.Files g.B.Files c.args.path.now w.read-outcome-else-is_lockfile.result (g.B.Files.bytes_at c.args.self.now.lockfiles) _ _ _ _ w.if-is_lockfile.ensures (rw w.outcome-is at counted) w.read-outcome-else-is_lockfile.ensures.unseen)
    ]
