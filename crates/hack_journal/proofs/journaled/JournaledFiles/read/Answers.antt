use Rattle.std.proofs.Common.{◌≡◌, ◌∙◌, ap, cond, false, inl, inr, refl, sym, arith, [], None}
use Rattle.hack_journal.specs.RefusingLaws.{grows_none}
use Rattle.hack_journal.specs.Rows.{is_of_journal}
use Rattle.hack_files.specs.TraceLaws.{makes_none}
use Rattle.hack_journal.specs.SafeLaws.{stays_none}
use Rattle.hack_journal.proofs.RefusingLemmas.{just_grown, just_looks, just_one, just_read, within_first}
use Rattle.hack_journal.proofs.SafeLemmas.{hides, without_all, without_at}
use Rattle.hack_journal.proofs.journaled.JournaledFiles.read.Goals as goal

pub returns-then-is_of_journal-clause-looks : goal.returns-then-is_of_journal-clause-looks
returns-then-is_of_journal-clause-looks g c = record {
  stays = (
    refl,
    λ tells whole. stays_none _ _ _ _ _ _ (makes_none _ _),
    g.F.Files.stays_none c.args.self.now.files,
    record { first = 0; second = 1; both = 1; one = grows_none _; two = c.note_read.ensures.told; sum = c.count_failure.ensures; most = omega arith; least = omega arith },
  );
  counted = c.count_failure.ensures;
  refused_none = just_grown _ 1 _ _ c.count_failure.ensures;
  same = λ tells q. refl;
  untraced = λ both. makes_none _ _;
}

pub returns-clause-looks : goal.returns-clause-looks
returns-clause-looks g c = record {
  stays = (refl, λ tells whole. stays_none _ _ _ _ _ _ (c.read-outcome.ensures.untraced whole), c.read-outcome.ensures.stays, within_first c.read-outcome.result _ _ _ _ _ c.read-outcome.ensures.counted c.counted.ensures.counted);
  counted = rw c.counted.ensures.same c.counted.ensures.counted;
  refused_none = just_looks _ c.read-outcome.result _ _ c.counted.ensures.counted;
  same = λ tells. without_all _ _ _ (c.read-outcome.ensures.same tells);
  untraced = λ both. hides _ [] _ _ _ _ (c.read-outcome.ensures.untraced both.1);
}

pub returns-then-is_of_journal-clause-unseen : goal.returns-then-is_of_journal-clause-unseen
returns-then-is_of_journal-clause-unseen g c = elim g.F.Files.tells_or_not [
  | inl tells ↦ inr (just_grown _ 1 _ _ c.count_failure.ensures, tells, ap (λ b. cond b None (g.F.Files.bytes_at c.args.self.now.files c.args.path.now)) (sym c.is_of_journal.ensures ∙ c.if-is_of_journal.true))
  | inr never ↦ inl (just_one _ _ _ _ c.count_failure.ensures (inr never))
]

pub returns-clause-unseen : goal.returns-clause-unseen
returns-clause-unseen g c =
    let out : is_of_journal c.args.self.now.notes.journal c.args.path.now ≡ false = sym c.is_of_journal.ensures ∙ c.if-is_of_journal.false in
    rw c.counted.ensures.same (just_read _ (g.F.Files.unseen c.args.self.now.files c.read-outcome.new.self) g.F.Files.tells g.F.Files.tells _ _ _ c.read-outcome.result _ _ c.counted.ensures.counted c.read-outcome.ensures.unseen
    (λ u. inl (record { before = c.args.self.now.files; after = c.read-outcome.new.self; unseen = u }))
    (λ tells none. inl (tells, without_at c.args.self.now.notes.journal (g.F.Files.bytes_at c.args.self.now.files) c.args.path.now out ∙ none)))

pub returns-then-is_of_journal-clause-below : goal.returns-then-is_of_journal-clause-below
returns-then-is_of_journal-clause-below g c = λ whole. makes_none _ _
