use Rattle.std.proofs.Common.{◌≡◌, ap, refl, rules}
use Rattle.hack_journal.proofs.ApartLemmas.{files_kept, lockfiles_kept}
use Rattle.hack_journal.proofs.RefusingLemmas.{just_looks, just_refused, unseen_lockfile, unseen_other, both_first, both_second}
use Rattle.hack_journal.specs.RefusingLaws.{notes_same}
use Rattle.hack_journal.proofs.apart.ApartFiles.exists.Goals.{then-is_lockfile, else-is_lockfile}
use Rattle.hack_journal.proofs.apart.ApartFiles.exists.Goals as goal

pub returns-clause-looks : goal.returns-clause-looks
returns-clause-looks g c =
    let same : c.if-is_lockfile.self.failures ≡ c.args.self.now.failures = elim c.if-is_lockfile.branch [ then-is_lockfile w ↦ ap (λ s. s.failures) w.self-is | else-is_lockfile w ↦ ap (λ s. s.failures) w.self-is ] in
    let counted = rw same at c.counted.ensures.counted in
    record {
      stays = elim c.if-is_lockfile.branch [
        | then-is_lockfile w ↦ rw w.self-is (g.A.Files.stays_none _, w.exists-outcome.ensures.stays, (λ t q lock. refl), both_second w.exists-outcome.result _ _ _ _ _ w.exists-outcome.ensures.counted (rw w.outcome-is at counted), (λ t q other. w.exists-outcome.ensures.same t q), notes_same g.B.Files _ _ _ w.exists-outcome.ensures.refused_none)
        | else-is_lockfile w ↦ rw w.self-is (w.exists-outcome-else-is_lockfile.ensures.stays, g.B.Files.stays_none _, (λ t q lock. w.exists-outcome-else-is_lockfile.ensures.same t q), both_first w.exists-outcome-else-is_lockfile.result _ _ _ _ _ w.exists-outcome-else-is_lockfile.ensures.counted (rw w.outcome-is at counted), (λ t q other. refl), notes_same g.B.Files _ _ _ (g.B.Files.refuses_none _))
      ];
      counted = search rules;
      refused_none = just_looks _ _ _ _ counted;
      same = search rules;
      untraced = λ both. elim c.if-is_lockfile.branch [
        | then-is_lockfile w ↦ rw w.self-is (lockfiles_kept _ _ _ _ _ _ (w.exists-outcome.ensures.untraced both.1))
        | else-is_lockfile w ↦ rw w.self-is (files_kept _ _ _ _ _ _ (w.exists-outcome-else-is_lockfile.ensures.untraced both.0))
      ];
    }

pub returns-clause-unseen_path : goal.returns-clause-unseen_path
returns-clause-unseen_path g c =
    let same : c.if-is_lockfile.self.failures ≡ c.args.self.now.failures = elim c.if-is_lockfile.branch [ then-is_lockfile w ↦ ap (λ s. s.failures) w.self-is | else-is_lockfile w ↦ ap (λ s. s.failures) w.self-is ] in
    let counted = rw same at c.counted.ensures.counted in
    elim c.if-is_lockfile.branch [
      | then-is_lockfile w ↦ rw (c.counted.ensures.same, w.outcome-is) (just_refused _ _ w.exists-outcome.result _ _ (rw w.outcome-is at counted) (unseen_lockfile g.A.Files g.B.Files _ w.exists-outcome.result _ _ w.if-is_lockfile.ensures w.exists-outcome.ensures.unseen_path))
      | else-is_lockfile w ↦ rw (c.counted.ensures.same, w.outcome-is) (just_refused _ _ w.exists-outcome-else-is_lockfile.result _ _ (rw w.outcome-is at counted) (unseen_other g.A.Files g.B.Files _ w.exists-outcome-else-is_lockfile.result _ _ w.if-is_lockfile.ensures w.exists-outcome-else-is_lockfile.ensures.unseen_path))
    ]
