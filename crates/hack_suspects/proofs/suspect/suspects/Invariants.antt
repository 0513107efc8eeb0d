use Rattle.std.proofs.Common.{◌≡◌, List, Contains, take, true}
use Rattle.hack_samples.specs.Sets.{rows_of}
use Rattle.hack_suspects.specs.Suspects.{RunOutcome, IsSuspect, outcomes_of}
use Rattle.hack_samples.specs.Samples.{RowShows}
use Rattle.hack_suspects.specs.InternalWalks.{AreSomeSuspects}
use Rattle.hack_samples.specs.declared.sets.Setting.{Setting}
use Rattle.hack_suspects.proofs.suspect.suspects.Given as goal

abbrev pub invariant-loop-outcome : goal.invariant-loop-outcome
invariant-loop-outcome l = record {
  sound : AreSomeSuspects (outcomes_of l.outcomes) l.candidates l.strength (rows_of l.found.items);
  all : (o : RunOutcome) → Contains (outcomes_of (take l.outcome-index l.outcomes)) o → o.failed ≡ true → (p : List Setting) → RowShows o.on p → IsSuspect (outcomes_of l.outcomes) l.candidates l.strength p → Contains (rows_of l.found.items) p;
}
