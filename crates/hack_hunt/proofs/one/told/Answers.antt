use Rattle.std.proofs.Common.{refl}
use Rattle.hack_closures.specs.View.{search_of}
use Rattle.hack_conflicts.specs.Runs.{finding_of}
use Rattle.hack_conflicts.specs.declared.tried.BuildOutcome.TheVariants.{Failed, Passed}
use Rattle.hack_hunt.proofs.SetLemmas.{tried_chosen}
use Rattle.hack_hunt.proofs.one.told.Goals as goal

pub returns : goal.returns
returns c =
    let f = finding_of c.args.found.now in
    let rules = search_of c.args.aim.closures.now in
    let finding = c.requires.1 in
    record {
      slot = refl;
      member = refl;
      plain = refl;
      conflicts = rw c.as_slice.ensures.value at c.in_ok-builds_of.ensures (tried_chosen rules f.runs Failed f.conflicts finding.course.chosen finding.failed);
      passing = rw c.as_slice-2.ensures.value at c.in_ok-builds_of-2.ensures (tried_chosen rules f.runs Passed f.passing finding.course.chosen finding.passed);
      unfinished = c.in_ok-unfinished_in.ensures;
      complete = refl;
    }
