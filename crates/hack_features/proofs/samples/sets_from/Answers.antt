use Rattle.std.proofs.Common.{◌<◌, ◌∙◌, [], List, Bool, map, length, All, get_or, sym, ap, refl, subst}
use Rattle.hack_samples.specs.Sets.{rows_of}
use Rattle.hack_sets.specs.Forest.{sets_of}
use Rattle.hack_features.specs.Samples.{positions_of}
use Rattle.hack_features.proofs.MemberLemmas.{sets-within, sets-same, rows-next}
use Rattle.hack_features.proofs.samples.sets_from.Goals as goal

pub loop-set-preserved : goal.loop-set-preserved
loop-set-preserved c =
    let all : List (List Bool) = rows_of c.args.sets.now in
    let k = c.loop-set.set-index in
    let old = sets_of c.loop-set.forest in
    let new = sets_of c.push_set.new.self in
    let place = c.in_ok-push_set.field-0 in
    let kept = c.in_ok-push_set.ensures.kept in
    record {
      within = subst (All (λ p. p < length new)) (sym c.in_ok-push.ensures.items) (sets-within old kept.0 new c.loop-set.places.items place kept.1 c.loop-set.invariant.within c.in_ok-push_set.ensures.within);
      same = ap (map (λ p. get_or new p [])) c.in_ok-push.ensures.items
          ∙ sets-same old kept.0 new c.loop-set.places.items place kept.1 c.loop-set.invariant.within all k c.set-item.result.items c.loop-set.invariant.same
          (rows-next c.args.sets.now c.args.sets.now refl k c.set-item.result c.loop-set-test.true c.set-item.is)
          (c.in_ok-push_set.ensures.set ∙ c.as_slice-positions.ensures.value ∙ c.in_ok-members.ensures ∙ ap positions_of c.as_slice-row.ensures.value);
    }
