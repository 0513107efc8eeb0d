use Rattle.std.proofs.Common.{◌≡◌, ◌++◌, ◌∷◌, [], take, ◌+◌, ◌∙◌, sym, ap, subst}
use Rattle.hack_base.specs.Names.{names_of}
use Rattle.hack_routes.specs.InternalSearch.{Adds, IsTarget}
use Rattle.hack_routes.specs.Places.{AreAt}
use Rattle.hack_routes.specs.InternalPlaces.{targets_of}
use Rattle.hack_routes.specs.InternalNamesView.{table, IsInStep}
use Rattle.hack_base.proofs.NameLemmas.{names-more}
use Rattle.hack_routes.proofs.ReachLemmas.{adds-target, adds-no_target}
use Rattle.hack_routes.proofs.PlaceLemmas.{at-front, at-push, targets-found, targets-missed}
use Rattle.hack_routes.proofs.names.Names.targets.Goals as goal
use Rattle.hack_routes.proofs.names.Names.targets.Goals.{in-Some+in_ok-place_of+in_ok-push, in_default}

pub loop-value-preserved : goal.loop-value-preserved
loop-value-preserved c =
    let before = take c.loop-value.value-index (names_of c.args.values.now) in
    let v = c.as_str.result.now in
    let more : take (c.loop-value.value-index + 1) (names_of c.args.values.now) ≡ before ++ v ∷ [] =
    names-more c.args.values.now c.loop-value.value-index c.value-item.result c.loop-value-test.true c.value-item.is ∙ ap (λ n. before ++ n ∷ []) (sym c.as_str.ensures.value) in
    let start = table c.args.self.now in
    let old = table c.loop-value.self in
    elim c.match-target.branch [
      | in-Some+in_ok-place_of+in_ok-push w ↦
          let new = table w.place_of.new.self in
          let more_names = w.in_ok-place_of.ensures.adds.kept in record {
            step = subst IsInStep (sym w.self-is) w.in_ok-place_of.ensures.in_step;
            row = subst (λ s. AreAt (table s) c.match-target.row.items (targets_of c.args.edges (take (c.loop-value.value-index + 1) (names_of c.args.values.now)))) (sym w.self-is)
                (subst (λ r. AreAt new r (targets_of c.args.edges (take (c.loop-value.value-index + 1) (names_of c.args.values.now)))) (sym (ap (λ r. r.items) w.row-is ∙ w.in_ok-push.ensures.items))
                (subst (λ vs. AreAt new (c.loop-value.row.items ++ w.in_ok-place_of.field-0 ∷ []) (targets_of c.args.edges vs)) (sym more)
                (subst (λ ts. AreAt new (c.loop-value.row.items ++ w.in_ok-place_of.field-0 ∷ []) ts) (sym (targets-found c.args.edges before v w.in-Some.name.now w.in-Some.ensures))
                (at-push new c.loop-value.row.items (targets_of c.args.edges before) w.in_ok-place_of.field-0 w.in-Some.name.now
                (at-front old more_names.0 new c.loop-value.row.items (targets_of c.args.edges before) more_names.1 c.loop-value.invariant.row)
                w.in_ok-place_of.ensures.place.0 w.in_ok-place_of.ensures.place.1))));
            adds = subst (λ s. Adds (IsTarget c.args.edges (take (c.loop-value.value-index + 1) (names_of c.args.values.now))) start (table s)) (sym w.self-is)
                (subst (λ vs. Adds (IsTarget c.args.edges vs) start new) (sym more)
                (adds-target c.args.edges before v w.in-Some.name.now start old new c.loop-value.invariant.adds w.in-Some.ensures w.in_ok-place_of.ensures.adds));
          }
      | in_default w ↦ record {
        step = subst IsInStep (sym w.self-is) c.loop-value.invariant.step;
        row = subst (λ s. AreAt (table s) c.match-target.row.items (targets_of c.args.edges (take (c.loop-value.value-index + 1) (names_of c.args.values.now)))) (sym w.self-is)
            (subst (λ r. AreAt old r.items (targets_of c.args.edges (take (c.loop-value.value-index + 1) (names_of c.args.values.now)))) (sym w.row-is)
            (subst (λ vs. AreAt old c.loop-value.row.items (targets_of c.args.edges vs)) (sym more)
            (subst (λ ts. AreAt old c.loop-value.row.items ts) (sym (targets-missed c.args.edges before v w.in_default.ensures)) c.loop-value.invariant.row)));
        adds = subst (λ s. Adds (IsTarget c.args.edges (take (c.loop-value.value-index + 1) (names_of c.args.values.now))) start (table s)) (sym w.self-is)
            (subst (λ vs. Adds (IsTarget c.args.edges vs) start old) (sym more)
            (adds-no_target c.args.edges before v start old c.loop-value.invariant.adds w.in_default.ensures));
      }
    ]
