use Rattle.std.proofs.Common.{◌≡◌, ◌+◌, ◌++◌, ◌∷◌, [], take, subst, sym, ap, ◌∙◌}
use Rattle.hack_base.specs.Names.{names_of, names_behind}
use Rattle.hack_routes.specs.InternalSearch.{HasJust, Adds, IsTarget}
use Rattle.hack_base.proofs.NameLemmas.{names-more}
use Rattle.hack_routes.proofs.ReachLemmas.{adds-target, adds-no_target}
use Rattle.hack_routes.proofs.reach.Found.add_targets.Goals as goal
use Rattle.hack_routes.proofs.reach.Found.add_targets.Goals.{in-Some+in_ok-add, in_default}

pub loop-value-preserved : goal.loop-value-preserved
loop-value-preserved c =
    let before = take c.loop-value.value-index (names_of c.args.values.now) in
    let more : take (c.loop-value.value-index + 1) (names_of c.args.values.now) ≡ before ++ c.as_str.result.now ∷ [] =
    names-more c.args.values.now c.loop-value.value-index c.value-item.result c.loop-value-test.true c.value-item.is ∙ ap (λ n. before ++ n ∷ []) (sym c.as_str.ensures.value) in
    elim c.match-target.branch [
      | in-Some+in_ok-add w ↦ record {
        just = subst (λ f. HasJust f.seen (names_behind f.order.items)) (sym w.self-is) w.in_ok-add.ensures.in_step;
        adds = subst (λ vs. Adds (IsTarget c.args.edges vs) (names_behind c.args.self.now.order.items) (names_behind c.match-target.self.order.items)) (sym more)
            (subst (λ f. Adds (IsTarget c.args.edges (before ++ c.as_str.result.now ∷ [])) (names_behind c.args.self.now.order.items) (names_behind f.order.items)) (sym w.self-is)
            (adds-target c.args.edges before c.as_str.result.now w.in-Some.name.now (names_behind c.args.self.now.order.items) (names_behind c.loop-value.self.order.items) (names_behind w.add.new.self.order.items)
            c.loop-value.invariant.adds w.in-Some.ensures w.in_ok-add.ensures.adds));
      }
      | in_default w ↦ record {
        just = subst (λ f. HasJust f.seen (names_behind f.order.items)) (sym w.self-is) c.loop-value.invariant.just;
        adds = subst (λ vs. Adds (IsTarget c.args.edges vs) (names_behind c.args.self.now.order.items) (names_behind c.match-target.self.order.items)) (sym more)
            (subst (λ f. Adds (IsTarget c.args.edges (before ++ c.as_str.result.now ∷ [])) (names_behind c.args.self.now.order.items) (names_behind f.order.items)) (sym w.self-is)
            (adds-no_target c.args.edges before c.as_str.result.now (names_behind c.args.self.now.order.items) (names_behind c.loop-value.self.order.items) c.loop-value.invariant.adds w.in_default.ensures));
      }
    ]
