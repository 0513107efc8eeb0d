use Rattle.std.proofs.Common.{subst, arith, true, false}
use Rattle.std.proofs.lemmas.List.{length-map, take_all}
use Rattle.std.proofs.lemmas.List.Elements.{All-nil}
use Rattle.hack_conflicts.specs.Sets.{rows_of}
use Rattle.hack_conflicts.specs.Runs.{IsToldOf, run_of, runs_in}
use Rattle.hack_conflicts.proofs.OpenLemmas.{IsLastOpen, open_step, open_whole}
use Rattle.hack_conflicts.proofs.found.Found.unfinished.Goals as goal
use Rattle.hack_conflicts.proofs.found.Found.unfinished.Goals.{then-is_clear, else-is_clear}

pub loop-place-init : goal.loop-place-init
loop-place-init c = All-nil (IsToldOf (rows_of c.args.self.now.conflicts.items))

pub loop-place-preserved : goal.loop-place-preserved
loop-place-preserved c =
    elim c.if-is_clear.branch [
      | then-is_clear w ↦ open_step c.args.self.now.runs.items (rows_of c.args.self.now.conflicts.items) c.loop-place.place c.index.result.now (omega (arith, c.loop-place-test.true, c.len-place-end.ensures)) c.index.ensures true (rw c.as_slice.ensures.value at w.if-is_clear.ensures) c.loop-place.last c.if-is_clear.last w.last-is c.loop-place.invariant
      | else-is_clear w ↦ open_step c.args.self.now.runs.items (rows_of c.args.self.now.conflicts.items) c.loop-place.place c.index.result.now (omega (arith, c.loop-place-test.true, c.len-place-end.ensures)) c.index.ensures false (rw c.as_slice.ensures.value at w.if-is_clear.ensures) c.loop-place.last c.if-is_clear.last w.last-is c.loop-place.invariant
    ]

pub returns : goal.returns
returns c =
    let runs = runs_in c.args.self.now.runs.items in
    let conflicts = rows_of c.args.self.now.conflicts.items in
    open_whole runs conflicts c.loop-place.last
    (subst (IsLastOpen conflicts c.loop-place.last) (take_all c.loop-place.place runs (omega (arith, c.loop-place-test.false, c.len-place-end.ensures, length-map c.args.self.now.runs.items run_of))) c.loop-place.invariant)
