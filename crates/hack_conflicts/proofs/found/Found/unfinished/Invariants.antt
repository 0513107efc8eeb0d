use Rattle.std.specs.Prelude.{take}
use Rattle.hack_conflicts.specs.Sets.{rows_of}
use Rattle.hack_conflicts.specs.Runs.{runs_in}
use Rattle.hack_conflicts.proofs.OpenLemmas.{IsLastOpen}
use Rattle.hack_conflicts.proofs.found.Found.unfinished.Given as goal

-- none of the runs so far is left open, or the last that is open is kept
abbrev pub invariant-loop-place : goal.invariant-loop-place
invariant-loop-place l = IsLastOpen (rows_of l.self.conflicts.items) l.last (take l.place (runs_in l.self.runs.items))
