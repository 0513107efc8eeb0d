use Rattle.std.proofs.Common.{◌≡◌, ◌+◌, sym, subst, ℕ, List, [], take, true, Contains, arith}
use Rattle.std.proofs.lemmas.List.{take_all}
use Rattle.hack_samples.specs.Sets.{rows_of}
use Rattle.hack_suspects.specs.Suspects.{RunOutcome, IsSuspect, outcomes_of}
use Rattle.hack_samples.specs.Samples.{RowShows}
use Rattle.hack_suspects.specs.InternalWalks.{AreSomeSuspects, FindsFrom, PatternsAreKept}
use Rattle.hack_samples.specs.declared.sets.Setting.{Setting}
use Rattle.hack_samples.proofs.SetLemmas.{not_both}
use Rattle.hack_suspects.proofs.SuspectLemmas.{run-among, runs-more, suspects-all, suspects-more}
use Rattle.hack_suspects.proofs.suspect.suspects.Goals as goal
use Rattle.hack_suspects.proofs.suspect.suspects.Goals.{then-outcome+in_ok-walk, else-outcome}

pub walk-requires-clause-row : goal.walk-requires-clause-row
walk-requires-clause-row c = record {
  by = record { on = c.outcome-item.result.on.items; failed = c.outcome-item.result.failed };
  among = run-among c.args.outcomes.now c.loop-outcome.outcome-index c.outcome-item.result c.loop-outcome-test.true c.outcome-item.is;
  ended = c.if-outcome.true;
  is = sym c.as_slice.ensures.value;
}

pub loop-outcome-preserved : goal.loop-outcome-preserved
loop-outcome-preserved c =
    let runs = c.args.outcomes.now in
    let i : ℕ = c.loop-outcome.outcome-index in
    let o : RunOutcome = record { on = c.outcome-item.result.on.items; failed = c.outcome-item.result.failed } in
    let n : ℕ = c.args.candidates in
    let t : ℕ = c.args.strength in
    let more = suspects-more (outcomes_of runs) (outcomes_of (take i runs)) (outcomes_of (take (i + 1) runs)) o n t in
    let is = runs-more runs i c.outcome-item.result c.loop-outcome-test.true c.outcome-item.is in
    elim c.if-outcome.branch [
      | then-outcome+in_ok-walk w ↦
          let finds : FindsFrom (outcomes_of runs) n t o.on [] 0 t (rows_of c.if-outcome.found.items) =
          subst (λ f. FindsFrom (outcomes_of runs) n t o.on [] 0 t (rows_of f.items)) (sym w.found-is)
          (subst (λ r. FindsFrom (outcomes_of runs) n t r [] 0 t (rows_of w.walk.new.found.items)) w.as_slice.ensures.value
          (subst (λ p. FindsFrom (outcomes_of runs) n t w.as_slice.result.now p 0 t (rows_of w.walk.new.found.items)) w.new.ensures.items w.in_ok-walk.ensures.all)) in
          record {
            sound = subst (λ f. AreSomeSuspects (outcomes_of runs) n t (rows_of f.items)) (sym w.found-is) w.in_ok-walk.ensures.sound;
            all = more (rows_of c.loop-outcome.found.items) (rows_of c.if-outcome.found.items) is
                (subst (λ f. PatternsAreKept (rows_of c.loop-outcome.found.items) (rows_of f.items)) (sym w.found-is) w.in_ok-walk.ensures.kept) (λ failed. finds) c.loop-outcome.invariant.all;
          }
      | else-outcome w ↦
          record {
            sound = subst (λ f. AreSomeSuspects (outcomes_of runs) n t (rows_of f.items)) (sym w.found-is) c.loop-outcome.invariant.sound;
            all = more (rows_of c.loop-outcome.found.items) (rows_of c.if-outcome.found.items) is
                (λ p h. subst (λ f. Contains (rows_of f.items) p) (sym w.found-is) h)
                (λ failed. absurd (not_both failed w.if-outcome.false)) c.loop-outcome.invariant.all;
          }
    ]

pub returns-clause-ok : goal.returns-clause-ok
returns-clause-ok c =
    let runs = c.args.outcomes.now in
    let found = rows_of c.loop-outcome.found.items in
    let all = subst (λ l. (o : RunOutcome) → Contains (outcomes_of l) o → o.failed ≡ true → (p : List Setting) → RowShows o.on p → IsSuspect (outcomes_of runs) c.args.candidates c.args.strength p → Contains found p)
    (take_all c.loop-outcome.outcome-index runs (omega (arith, c.loop-outcome-test.false))) c.loop-outcome.invariant.all in
    suspects-all (outcomes_of runs) c.args.candidates c.args.strength found c.loop-outcome.invariant.sound all
