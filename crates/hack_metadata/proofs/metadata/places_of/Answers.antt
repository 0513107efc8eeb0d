use Rattle.std.proofs.Common.{Some, string_bytes, refl}
use Rattle.std.proofs.lemmas.Map.Text.{btree_map_updates_text}
use Rattle.hack_metadata.proofs.IdLemmas.{places-turn, places-end}
use Rattle.hack_metadata.proofs.metadata.places_of.Goals as goal

pub loop-index-preserved : goal.loop-index-preserved
loop-index-preserved c =
    places-turn c.args.packages.now c.loop-index.index c.index-packages-index.result (string_bytes c.in_ok-clone.field-0) (record { index = c.loop-index.index }) c.loop-index.ids c.insert.new.self
    c.loop-index-test.true c.index-packages-index.is c.in_ok-clone.ensures.cases refl
    (btree_map_updates_text (string_bytes c.in_ok-clone.field-0) c.loop-index.ids c.insert.new.self (Some (record { index = c.loop-index.index })) c.in_ok-insert.ensures.updates)
    c.loop-index.invariant

pub returns : goal.returns
returns c = places-end c.args.packages.now c.loop-index.index c.loop-index.ids c.loop-index-test.false c.loop-index.invariant
