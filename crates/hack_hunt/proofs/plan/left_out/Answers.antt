use Rattle.std.proofs.Common.{[], ◌∙◌, ◌++◌, List, Some, ap, get_or, map, sym, take}
use Rattle.std.proofs.lemmas.List.{flat_map_more, map-append, take_all}
use Rattle.hack_base.specs.Notes.{Note, note_of}
use Rattle.hack_load.specs.ContextView.{context_view}
use Rattle.hack_load.specs.GivenFeatures.{left_out_for}
use Rattle.hack_hunt.specs.Hunts.{Spot}
use Rattle.hack_hunt.specs.Searched.{left_out_notes}
use Rattle.hack_hunt.specs.SpotView.{spot_view}
use Rattle.hack_hunt.proofs.SpotLemmas.{id_known, more_map, no_spot}
use Rattle.hack_hunt.proofs.plan.left_out.Goals as goal

pub loop-spot-init : goal.loop-spot-init
loop-spot-init c = ap (map note_of) c.new-notices.ensures.items

pub features_for-requires : goal.features_for-requires
features_for-requires c =
    id_known (context_view c.args.cx.now).metadata.workspace_members c.args.ids.now c.deref-spot-items.result.now c.args.slots c.loop-spot.spot-index c.requires (ap (map spot_view) c.deref-spot-items.ensures.value ∙ c.in_ok-spots.ensures) c.loop-spot-test.true

pub loop-spot-preserved : goal.loop-spot-preserved
loop-spot-preserved c =
    let cx = context_view c.args.cx.now in
    let spots = c.deref-spot-items.result.now in
    let k = c.loop-spot.spot-index in
    let before = map spot_view (take k spots) in
    ap (map note_of) c.in_ok-append.ensures.items
    ∙ map-append note_of c.loop-spot.notices.items c.in_ok-told.told.items
    ∙ ap (λ (l : List Note). l ++ map note_of c.in_ok-told.told.items) c.loop-spot.invariant
    ∙ ap (λ (l : List Note). left_out_notes cx before ++ l) c.in_ok-told.ensures.notices
    ∙ flat_map_more (λ (spot : Spot). left_out_for cx (Some spot.id)) [] before (spot_view (get_or spots k no_spot))
    ∙ ap (left_out_notes cx) (sym (more_map spot_view spots k no_spot c.loop-spot-test.true))

pub returns : goal.returns
returns c =
    let cx = context_view c.args.cx.now in
    c.loop-spot.invariant
    ∙ ap (λ l. left_out_notes cx (map spot_view l)) (take_all c.loop-spot.spot-index c.deref-spot-items.result.now c.loop-spot-test.false)
    ∙ ap (left_out_notes cx) (ap (map spot_view) c.deref-spot-items.ensures.value ∙ c.in_ok-spots.ensures)
