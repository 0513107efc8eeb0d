use Rattle.std.proofs.Common.{Ok, length, map, take}
use Rattle.hack_load.specs.ContextView.{context_view}
use Rattle.hack_hunt.specs.Hunts.{RanHunts}
use Rattle.hack_hunt.specs.Searched.{CanGrow}
use Rattle.hack_hunt.specs.SpotView.{spot_view}
use Rattle.hack_hunt.proofs.hunt.hunt_all.Given as goal

-- the spots so far were searched to the end, and the plan can still grow
abbrev pub invariant-loop-spot : goal.invariant-loop-spot
invariant-loop-spot g l = record {
  can : CanGrow (length l.ids) l.plan;
  ran : RanHunts g.R.Runner.ran g.R.Judge.ended (context_view l.cx) l.most_runs (map spot_view (take l.spot-index l.spot-items)) (Ok l.found.items) l.fn.plan l.plan l.fn.runner l.runner;
}
