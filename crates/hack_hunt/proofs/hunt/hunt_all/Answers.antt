use Rattle.std.proofs.Common.{◌+◌, ◌∙◌, ◌++◌, ◌∷◌, [], Err, List, Ok, ap, append_assoc, arith, drop, get_or, length, map, subst, sym, take}
use Rattle.std.proofs.lemmas.List.{get_or-map, length-map, take_all}
use Rattle.std.proofs.lemmas.Result.{err_from_is_err_and}
use Rattle.std.specs.Prelude.{All, None}
use Rattle.hack_culprits.specs.declared.fault.CulpritsFault.TheVariants.{Memory}
use Rattle.hack_load.specs.ContextView.{context_view}
use Rattle.hack_load.specs.Contexts.{ContextRecord}
use Rattle.hack_metadata.specs.RecordViews.{place_at}
use Rattle.hack_plan.specs.Commands.{slots_in}
use Rattle.hack_hunt.specs.Hunts.{RanHunts, Spot, spots_of}
use Rattle.hack_hunt.specs.SpotView.{spot_view}
use Rattle.hack_hunt.specs.declared.hunt.Hunted.{Hunted}
use Rattle.hack_hunt.proofs.HuntLemmas.{ran_cut, ran_more, ran_none, ran_nothing, ran_short, still_can}
use Rattle.hack_hunt.proofs.SpotLemmas.{IsOf, around_map, id_known, more_map, no_spot, spots_known}
use Rattle.hack_hunt.proofs.hunt.hunt_all.Goals as goal

pub returns-in_err-spots : goal.returns-in_err-spots
returns-in_err-spots g c =
    let p = err_from_is_err_and c.from_residual.result c.from_residual.ensures.1 in
    rw (p.1, p.2) (ran_nothing g.R.Runner.ran g.R.Judge.ended g.met.R.Runner.ran_none g.met.R.Runner.ran_more g.met.R.Judge.ran_grown (context_view c.args.cx.now) c.args.most_runs
    (spots_of (map place_at c.args.ids.now) (slots_in c.args.plan.now.call None)) c.args.plan.now c.args.runner.now)

pub loop-spot-init : goal.loop-spot-init
loop-spot-init g c = record {
  can = c.requires.grows;
  ran = subst (λ (l : List Hunted). RanHunts g.R.Runner.ran g.R.Judge.ended (context_view c.args.cx.now) c.args.most_runs [] (Ok l) c.args.plan.now c.args.plan.now c.args.runner.now c.args.runner.now) (sym c.new-found.ensures.items)
      (ran_none g.R.Runner.ran g.R.Judge.ended g.met.R.Runner.ran_none g.met.R.Runner.ran_more g.met.R.Judge.ran_grown (context_view c.args.cx.now) c.args.most_runs c.args.plan.now c.args.runner.now);
}

pub hunt_one-requires-clause-id : goal.hunt_one-requires-clause-id
hunt_one-requires-clause-id g c =
    id_known (context_view c.args.cx.now).metadata.workspace_members c.args.ids.now c.deref-spot-items.result.now c.slots.result c.loop-spot.spot-index c.requires.ids (ap (map spot_view) c.deref-spot-items.ensures.value ∙ c.in_ok-spots.ensures) c.loop-spot-test.true

pub hunt_one-requires-clause-room : goal.hunt_one-requires-clause-room
hunt_one-requires-clause-room g c =
    let ids = map place_at c.args.ids.now in
    let spots = c.deref-spot-items.result.now in
    let k = c.loop-spot.spot-index in
    let all = subst (All (IsOf ids)) (sym (ap (map spot_view) c.deref-spot-items.ensures.value ∙ c.in_ok-spots.ensures)) (spots_known ids c.slots.result) in
    let known = all k (spot_view no_spot) (omega (arith, c.loop-spot-test.true, length-map spots spot_view)) in
    let here = subst (IsOf ids) (get_or-map spot_view spots k no_spot (spot_view no_spot) c.loop-spot-test.true) known in
    record {
      grows = c.loop-spot.invariant.can.grows;
      version = c.loop-spot.invariant.can.version;
      member = omega (arith, here.member, length-map c.args.ids.now place_at, c.loop-spot.invariant.can.members);
    }

pub returns-in_err-one : goal.returns-in_err-one
returns-in_err-one g c =
    let cx : ContextRecord = context_view c.args.cx.now in
    let p = err_from_is_err_and c.from_residual-in_err-one.result c.from_residual-in_err-one.ensures.1 in
    let spots = c.deref-spot-items.result.now in
    let k = c.loop-spot.spot-index in
    let fault = rw (c.left_of-left.ensures, c.len.ensures.value) at c.in_err-one.ensures.fault in
    let cut = ran_cut g.R.Runner.ran g.R.Judge.ended g.met.R.Runner.ran_none g.met.R.Runner.ran_more g.met.R.Judge.ran_grown cx c.args.most_runs
    (map spot_view (take k spots)) (spot_view (get_or spots k no_spot)) (map spot_view (drop (k + 1) spots)) c.loop-spot.found.items c.in_err-one.field-0.0 c.args.plan.now c.loop-spot.plan c.hunt_one.new.plan c.args.runner.now c.loop-spot.runner c.hunt_one.new.runner
    c.loop-spot.invariant.can.grows c.len.ensures.runs c.loop-spot.invariant.ran fault in
    rw (p.1, p.2) (subst (λ (l : List Spot). RanHunts g.R.Runner.ran g.R.Judge.ended cx c.args.most_runs l (Err c.in_err-one.field-0.0) c.args.plan.now c.hunt_one.new.plan c.args.runner.now c.hunt_one.new.runner)
    (sym (around_map spot_view spots k no_spot c.loop-spot-test.true) ∙ ap (map spot_view) c.deref-spot-items.ensures.value ∙ c.in_ok-spots.ensures ∙ ap (spots_of (map place_at c.args.ids.now)) c.slots.ensures) cut)

pub returns-in_err-push : goal.returns-in_err-push
returns-in_err-push g c =
    let cx : ContextRecord = context_view c.args.cx.now in
    let p = err_from_is_err_and c.from_residual-in_err-push.result c.from_residual-in_err-push.ensures.1 in
    let spots = c.deref-spot-items.result.now in
    let k = c.loop-spot.spot-index in
    let hunted = rw (c.left_of-left.ensures, c.len.ensures.value) at c.in_ok-one.ensures.hunted in
    let more = ran_more g.R.Runner.ran g.R.Judge.ended g.met.R.Runner.ran_none g.met.R.Runner.ran_more g.met.R.Judge.ran_grown cx c.args.most_runs
    (map spot_view (take k spots)) (spot_view (get_or spots k no_spot)) c.loop-spot.found.items c.in_ok-one.one c.args.plan.now c.loop-spot.plan c.hunt_one.new.plan c.args.runner.now c.loop-spot.runner c.hunt_one.new.runner
    c.loop-spot.invariant.can.grows c.len.ensures.runs c.loop-spot.invariant.ran hunted in
    let short = ran_short g.R.Runner.ran g.R.Judge.ended g.met.R.Runner.ran_none g.met.R.Runner.ran_more g.met.R.Judge.ran_grown cx c.args.most_runs
    (map spot_view (take k spots) ++ spot_view (get_or spots k no_spot) ∷ []) (map spot_view (drop (k + 1) spots)) (c.loop-spot.found.items ++ c.in_ok-one.one ∷ []) c.args.plan.now c.hunt_one.new.plan c.args.runner.now c.hunt_one.new.runner more in
    rw (p.1, p.2) (subst (λ (l : List Spot). RanHunts g.R.Runner.ran g.R.Judge.ended cx c.args.most_runs l (Err Memory) c.args.plan.now c.hunt_one.new.plan c.args.runner.now c.hunt_one.new.runner)
    (append_assoc (map spot_view (take k spots)) (spot_view (get_or spots k no_spot) ∷ []) (map spot_view (drop (k + 1) spots)) ∙ sym (around_map spot_view spots k no_spot c.loop-spot-test.true) ∙ ap (map spot_view) c.deref-spot-items.ensures.value ∙ c.in_ok-spots.ensures ∙ ap (spots_of (map place_at c.args.ids.now)) c.slots.ensures) short)

pub loop-spot-preserved : goal.loop-spot-preserved
loop-spot-preserved g c =
    let cx : ContextRecord = context_view c.args.cx.now in
    let spots = c.deref-spot-items.result.now in
    let k = c.loop-spot.spot-index in
    let hunted = rw (c.left_of-left.ensures, c.len.ensures.value) at c.in_ok-one.ensures.hunted in
    let more = ran_more g.R.Runner.ran g.R.Judge.ended g.met.R.Runner.ran_none g.met.R.Runner.ran_more g.met.R.Judge.ran_grown cx c.args.most_runs
    (map spot_view (take k spots)) (spot_view (get_or spots k no_spot)) c.loop-spot.found.items c.in_ok-one.one c.args.plan.now c.loop-spot.plan c.hunt_one.new.plan c.args.runner.now c.loop-spot.runner c.hunt_one.new.runner
    c.loop-spot.invariant.can.grows c.len.ensures.runs c.loop-spot.invariant.ran hunted in
    record {
      can = still_can (length c.args.ids.now) cx (spot_view (get_or spots k no_spot)) _ c.in_ok-one.one hunted.made c.loop-spot.plan c.hunt_one.new.plan hunted.hunt c.loop-spot.invariant.can;
      ran = subst (λ (l : List Spot). RanHunts g.R.Runner.ran g.R.Judge.ended cx c.args.most_runs l (Ok c.push.new.self.items) c.args.plan.now c.hunt_one.new.plan c.args.runner.now c.hunt_one.new.runner) (sym (more_map spot_view spots k no_spot c.loop-spot-test.true))
          (subst (λ (l : List Hunted). RanHunts g.R.Runner.ran g.R.Judge.ended cx c.args.most_runs (map spot_view (take k spots) ++ spot_view (get_or spots k no_spot) ∷ []) (Ok l) c.args.plan.now c.hunt_one.new.plan c.args.runner.now c.hunt_one.new.runner) (sym c.in_ok-push.ensures.items) more);
    }

pub returns : goal.returns
returns g c =
    let cx : ContextRecord = context_view c.args.cx.now in
    let spots = c.deref-spot-items.result.now in
    subst (λ (l : List Spot). RanHunts g.R.Runner.ran g.R.Judge.ended cx c.args.most_runs l (Ok c.loop-spot.found.items) c.args.plan.now c.loop-spot.plan c.args.runner.now c.loop-spot.runner)
    (ap (map spot_view) (take_all c.loop-spot.spot-index spots c.loop-spot-test.false) ∙ ap (map spot_view) c.deref-spot-items.ensures.value ∙ c.in_ok-spots.ensures ∙ ap (spots_of (map place_at c.args.ids.now)) c.slots.ensures)
    c.loop-spot.invariant.ran
