use Rattle.std.proofs.Common.{refl, rules, []}
use Rattle.hack_journal.specs.RefusingLaws.{just_none, within_none}
use Rattle.hack_files.specs.TraceLaws.{makes_none}
use Rattle.hack_journal.specs.SafeLaws.{stays_none}
use Rattle.hack_journal.proofs.RefusingLemmas.{just_looks, just_refused, unseen_below, within_first}
use Rattle.hack_journal.proofs.SafeLemmas.{hides, without_all}
use Rattle.hack_journal.proofs.journaled.JournaledFiles.exists.Goals as goal

pub returns-then-is_of_journal-clause-looks : goal.returns-then-is_of_journal-clause-looks
returns-then-is_of_journal-clause-looks g c = record {
  stays = (refl, λ tells whole. stays_none _ _ _ _ _ _ (makes_none _ _), g.F.Files.stays_none c.args.self.now.files, within_none _ _ _);
  counted = search rules;
  refused_none = just_none _ _;
  same = λ tells q. refl;
  untraced = λ both. makes_none _ _;
}

pub returns-clause-looks : goal.returns-clause-looks
returns-clause-looks g c = record {
  stays = (refl, λ tells whole. stays_none _ _ _ _ _ _ (c.exists-outcome.ensures.untraced whole), c.exists-outcome.ensures.stays, within_first c.exists-outcome.result _ _ _ _ _ c.exists-outcome.ensures.counted c.counted.ensures.counted);
  counted = rw c.counted.ensures.same c.counted.ensures.counted;
  refused_none = just_looks _ c.exists-outcome.result _ _ c.counted.ensures.counted;
  same = λ tells. without_all _ _ _ (c.exists-outcome.ensures.same tells);
  untraced = λ both. hides _ [] _ _ _ _ (c.exists-outcome.ensures.untraced both.1);
}

pub returns-then-is_of_journal-clause-unseen_path : goal.returns-then-is_of_journal-clause-unseen_path
returns-then-is_of_journal-clause-unseen_path g c = just_none _ _

pub returns-clause-unseen_path : goal.returns-clause-unseen_path
returns-clause-unseen_path g c =
    rw c.counted.ensures.same (just_refused _ _ c.exists-outcome.result _ _ c.counted.ensures.counted (unseen_below g.F.Files.tells g.F.Files _ c.exists-outcome.result _ _ c.exists-outcome.ensures.unseen_path))

pub returns-then-is_of_journal-clause-below : goal.returns-then-is_of_journal-clause-below
returns-then-is_of_journal-clause-below g c = λ whole. makes_none _ _
