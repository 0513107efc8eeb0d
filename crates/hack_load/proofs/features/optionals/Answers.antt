use Rattle.std.proofs.Common.{◌+◌, ◌∙◌, ap, sym, subst, map, drop, List, ◌∷◌}
use Rattle.hack_routes.specs.FeatureMap.{feature_map}
use Rattle.hack_features.specs.declared.feature.Feature.{Feature}
use Rattle.hack_metadata.specs.Records.{DependencyRecord}
use Rattle.hack_metadata.specs.RecordViews.{dependency_view}
use Rattle.hack_load.specs.Features.{texts_of}
use Rattle.hack_load.proofs.FeatureLemmas.{Picked, picked, picked-start, picked-pass, left-none, left-named, pass-old, picked-take, left-at}
use Rattle.hack_load.proofs.features.optionals.Goals as goal
use Rattle.hack_load.proofs.features.optionals.Goals.{in-Some+then-is_implicit+then-not-has_name+in_ok-normal+in_ok-push, in-Some+else-is_implicit, else-is_implicit-via-then-is_implicit+else-not-has_name, else-is_implicit-via-else-is_implicit, in_default}

pub loop-dependency-init : goal.loop-dependency-init
loop-dependency-init c = picked-start (feature_map c.args.features.now) (map dependency_view c.args.dependencies.now) c.new-found.result.items c.new-found.ensures.items

pub loop-dependency-preserved : goal.loop-dependency-preserved
loop-dependency-preserved c =
    let m = feature_map c.args.features.now in
    let ds = c.args.dependencies.now in
    let all = map dependency_view ds in
    let i = c.loop-dependency.dependency-index in
    let d = dependency_view c.dependency-item.result in
    let rest = map dependency_view (drop (i + 1) ds) in
    let fs = c.loop-dependency.found.items in
    let before : Picked m all (d ∷ rest) fs = subst (λ (l : List DependencyRecord). Picked m all l fs) (left-at ds i c.dependency-item.result c.loop-dependency-test.true c.dependency-item.is) c.loop-dependency.invariant in
    elim c.match-as_feature.branch [
      | in-Some+then-is_implicit+then-not-has_name+in_ok-normal+in_ok-push w ↦
          subst (λ (l : List Feature). Picked m all rest l) (sym (ap (λ v. v.items) w.found-is))
          (picked-take m all d rest w.in-Some.name.now w.in_ok-normal.field-0 fs w.push.new.self.items (sym w.in-Some.ensures) (sym w.is_implicit.ensures ∙ w.if-is_implicit.true)
          (sym (rw w.as_slice.ensures.value at w.has_name.ensures) ∙ w.if-not-has_name.true) w.in_ok-normal.ensures w.in_ok-push.ensures.items before)
      | in-Some+else-is_implicit w ↦
          subst (λ (l : List Feature). Picked m all rest l) (sym (ap (λ v. v.items) w.found-is))
          (elim w.else-is_implicit.branch [
            | else-is_implicit-via-then-is_implicit+else-not-has_name v ↦
                picked-pass m all (d ∷ rest) rest fs (pass-old m d rest w.in-Some.name.now (texts_of fs) (sym w.in-Some.ensures) (sym w.is_implicit.ensures ∙ v.if-is_implicit.true) (sym (rw v.as_slice.ensures.value at v.has_name.ensures) ∙ v.if-not-has_name.false)) before
            | else-is_implicit-via-else-is_implicit v ↦
                picked-pass m all (d ∷ rest) rest fs (ap (picked (texts_of fs)) (left-named m d rest w.in-Some.name.now (sym w.in-Some.ensures) (sym w.is_implicit.ensures ∙ v.if-is_implicit.false))) before
          ])
      | in_default w ↦
          subst (λ (l : List Feature). Picked m all rest l) (sym (ap (λ v. v.items) w.found-is))
          (picked-pass m all (d ∷ rest) rest fs (ap (picked (texts_of fs)) (left-none m d rest (sym w.in_default.ensures))) before)
    ]
