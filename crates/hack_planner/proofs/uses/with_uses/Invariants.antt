use Rattle.std.proofs.Common.{◌≡◌, length, map, take, All}
use Rattle.hack_load.specs.Contexts.{ContextRecord}
use Rattle.hack_metadata.specs.RecordViews.{place_at}
use Rattle.hack_planner.specs.Calls.{IsInputOf}
use Rattle.hack_planner.specs.InternalUses.{IsRight, id_of}
use Rattle.hack_planner.proofs.uses.with_uses.Given as goal

-- the packages so far
abbrev pub invariant-loop-id : goal.invariant-loop-id
invariant-loop-id l = record {
  count : length l.chosen.items ≡ l.id-index;
  same : map id_of l.chosen.items ≡ map place_at (take l.id-index l.ids);
  right : (cx : ContextRecord) → IsInputOf cx (map place_at l.ids) l.input → All (IsRight cx l.input l.versions.stable) l.chosen.items;
}
