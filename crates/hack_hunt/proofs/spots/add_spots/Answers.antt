use Rattle.std.proofs.Common.{◌∙◌, ◌++◌, ap, map, sym}
use Rattle.std.proofs.lemmas.List.{append-nil, map-append, take_all}
use Rattle.hack_metadata.specs.RecordViews.{place_at}
use Rattle.hack_hunt.specs.Hunts.{placed}
use Rattle.hack_hunt.specs.SpotView.{spot_view}
use Rattle.hack_hunt.proofs.SpotLemmas.{placed-more}
use Rattle.hack_hunt.proofs.spots.add_spots.Goals as goal

pub loop-member-init : goal.loop-member-init
loop-member-init c = sym (append-nil (map spot_view c.args.spots.now.items))

pub loop-member-preserved : goal.loop-member-preserved
loop-member-preserved c =
    placed-more c.args.slot c.args.ids.now c.loop-member.member _ c.loop-member-test.true (map spot_view c.args.spots.now.items) (map spot_view c.loop-member.spots.items) _
    (ap (map spot_view) c.in_ok-push.ensures.items ∙ map-append spot_view c.loop-member.spots.items _) c.loop-member.invariant

pub returns : goal.returns
returns c = c.loop-member.invariant ∙ ap (λ l. map spot_view c.args.spots.now.items ++ placed c.args.slot 0 (map place_at l)) (take_all c.loop-member.member c.args.ids.now c.loop-member-test.false)
