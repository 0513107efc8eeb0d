use Rattle.std.proofs.Common.{◌≡◌, ◌+◌, ◌<◌, List, length, subst, sym, ap, ◌∙◌, arith}
use Rattle.hack_base.specs.Names.{Name, names_of, names_behind}
use Rattle.hack_routes.specs.FeatureMap.{feature_map, values_at}
use Rattle.hack_routes.specs.Search.{edge_of}
use Rattle.hack_routes.specs.InternalSearch.{HasJust, Adds, IsTarget}
use Rattle.hack_base.proofs.NameLemmas.{shown-at, length-shown}
use Rattle.hack_routes.proofs.NameSetLemmas.{has_just-nil}
use Rattle.hack_routes.proofs.ReachLemmas.{Searching, searching-start, searching-next, searching-bound, searching-end, adds-edges, adds-no_targets, values_at-Some, values_at-None}
use Rattle.hack_routes.proofs.reach.names_from.Goals as goal
use Rattle.hack_routes.proofs.reach.names_from.Goals.{in-Some+in_ok-add_targets, in_default}

pub add-requires : goal.add-requires
add-requires c =
    subst (λ refs. HasJust c.new-2.result (names_behind refs)) (sym c.new.ensures.items) (has_just-nil c.new-2.result c.new-2.ensures.empty)

pub loop-next-init : goal.loop-next-init
loop-next-init c = record {
  just = c.in_ok-add.ensures.in_step;
  searching = searching-start (edge_of c.args.edges (feature_map c.args.map.now)) c.args.name.now (names_behind c.add.new.self.order.items)
      (subst (λ refs. Adds (λ y. c.args.name.now ≡ y) (names_behind refs) (names_behind c.add.new.self.order.items)) c.new.ensures.items c.in_ok-add.ensures.adds);
}

pub loop-next-smaller : goal.loop-next-smaller
loop-next-smaller c =
    omega (arith, searching-bound c.args.edges (feature_map c.args.map.now) c.args.name.now (names_behind c.loop-next.found.order.items) c.loop-next.next c.loop-next.invariant.searching, length-shown c.loop-next.found.order.items)

pub loop-next-preserved : goal.loop-next-preserved
loop-next-preserved c =
    let m = feature_map c.args.map.now in
    let old = names_behind c.loop-next.found.order.items in
    let x = c.index-from.result.now.now in
    let lt : c.loop-next.next < length c.loop-next.found.order.items = omega arith in
    let goes : (new : List Name) → Adds (IsTarget c.args.edges (values_at m x)) old new → Searching (edge_of c.args.edges m) c.args.name.now new (c.loop-next.next + 1) =
    λ new a. searching-next (edge_of c.args.edges m) c.args.name.now old new c.loop-next.next x c.loop-next.invariant.searching
    (omega (arith, length-shown c.loop-next.found.order.items)) (shown-at c.loop-next.found.order.items c.loop-next.next c.index-from.result.now lt c.index-from.ensures) (adds-edges c.args.edges m x old new a) in
    elim c.match-get.branch [
      | in-Some+in_ok-add_targets w ↦ record {
        just = subst (λ f. HasJust f.seen (names_behind f.order.items)) (sym w.found-is) w.in_ok-add_targets.ensures.in_step;
        searching = subst (λ f. Searching (edge_of c.args.edges m) c.args.name.now (names_behind f.order.items) (c.loop-next.next + 1)) (sym w.found-is)
            (goes (names_behind w.add_targets.new.self.order.items)
            (subst (λ vs. Adds (IsTarget c.args.edges vs) old (names_behind w.add_targets.new.self.order.items))
            (ap names_of w.as_slice.ensures.value ∙ sym (values_at-Some c.args.map.now x w.in-Some.values.now w.in-Some.ensures.value)) w.in_ok-add_targets.ensures.adds));
      }
      | in_default w ↦ record {
        just = subst (λ f. HasJust f.seen (names_behind f.order.items)) (sym w.found-is) c.loop-next.invariant.just;
        searching = subst (λ f. Searching (edge_of c.args.edges m) c.args.name.now (names_behind f.order.items) (c.loop-next.next + 1)) (sym w.found-is)
            (goes old (subst (λ vs. Adds (IsTarget c.args.edges vs) old old) (sym (values_at-None c.args.map.now x w.in_default.ensures.value)) (adds-no_targets c.args.edges old)));
      }
    ]

pub returns : goal.returns
returns c =
    searching-end (edge_of c.args.edges (feature_map c.args.map.now)) c.args.name.now (names_behind c.loop-next.found.order.items) c.loop-next.next c.loop-next.invariant.searching (omega (arith, length-shown c.loop-next.found.order.items))
