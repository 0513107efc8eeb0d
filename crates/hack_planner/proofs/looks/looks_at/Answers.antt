use Rattle.std.proofs.Common.{map, string_bytes}
use Rattle.hack_load.specs.ContextView.{context_view}
use Rattle.hack_metadata.specs.RecordViews.{place_at}
use Rattle.hack_planner.specs.Looks.{look_at}
use Rattle.hack_planner.proofs.LookLemmas.{found-more}
use Rattle.hack_planner.proofs.looks.looks_at.Goals as goal

pub loop-id-preserved : goal.loop-id-preserved
loop-id-preserved c =
    found-more (look_at (context_view c.args.cx.now)) place_at c.args.ids.now c.loop-id.id-index _ (map string_bytes c.loop-id.texts.items) (map string_bytes c.add_look.new.texts.items)
    c.loop-id-test.true c.in_ok-add_look.ensures c.loop-id.invariant
