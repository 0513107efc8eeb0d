use Rattle.std.proofs.Common.{◌≡◌, ◌+◌, ◌<◌, ◌∙◌, Some, sym, subst, ap, arith, length, true, false}
use Rattle.std.specs.Map.{update}
use Rattle.std.specs.Str.{bytes_eq}
use Rattle.std.proofs.lemmas.Map.Text.{btree_map_updates_str}
use Rattle.hack_base.specs.Names.{Name}
use Rattle.hack_routes.specs.NameSets.{get_at}
use Rattle.hack_samples.specs.Sets.{rows_of}
use Rattle.hack_routes.specs.Places.{name_at}
use Rattle.hack_routes.specs.RoutesView.{routed_names}
use Rattle.hack_routes.specs.declared.reach.Edges.TheVariants.{Enabling}
use Rattle.hack_base.proofs.NameLemmas.{length-shown}
use Rattle.hack_features.proofs.TableLemmas.{key_of, of_key}
use Rattle.hack_features.proofs.RouteDeps.{Tabling, here_at, tabling-next, tabling-skip, tabling-end}
use Rattle.hack_features.proofs.deps.deps_by_place.Goals as goal
use Rattle.hack_features.proofs.deps.deps_by_place.Goals.{then-is_key+in_ok-set+in_ok-insert+in-Some-1, then-is_key+in_ok-set+in_ok-insert+in-None-1, else-is_key}

pub loop-place-preserved : goal.loop-place-preserved
loop-place-preserved c = λ m h.
    let routes = c.args.routes.now in
    let names = routed_names routes in
    let place = c.loop-place.place in
    let keys = routes.keys.items in
    let marks = rows_of routes.marks.items in
    let old = c.loop-place.deps in
    let lt : place < length names = omega (arith, length-shown routes.names.items, ap length c.names-name-items.ensures, c.loop-place-test.true) in
    let at : name_at names place ≡ _ = here_at routes.names.items c.names-name-items.result.now place c.names-name-items.ensures c.loop-place-test.true in
    elim c.if-is_key.branch [
      | then-is_key+in_ok-set+in_ok-insert+in-Some-1 w ↦
          subst (λ d. Tabling m names d (place + 1)) (sym w.deps-is)
          (tabling-next m names place w.in_ok-set.set old w.insert.new.self (c.loop-place.invariant m h) (key_of Enabling m names keys marks h place lt (sym c.is_key.ensures ∙ w.if-is_key.true))
          (subst (λ n. (y : Name) → get_at w.insert.new.self y ≡ update bytes_eq (get_at old) n (Some w.in_ok-set.set) y) (sym at)
          (btree_map_updates_str _ old w.insert.new.self (Some w.in_ok-set.set) w.in_ok-insert.ensures.updates))
          (w.in_ok-set.ensures m h))
      | then-is_key+in_ok-set+in_ok-insert+in-None-1 w ↦
          subst (λ d. Tabling m names d (place + 1)) (sym w.deps-is)
          (tabling-next m names place w.in_ok-set.set old w.insert.new.self (c.loop-place.invariant m h) (key_of Enabling m names keys marks h place lt (sym c.is_key.ensures ∙ w.if-is_key.true))
          (subst (λ n. (y : Name) → get_at w.insert.new.self y ≡ update bytes_eq (get_at old) n (Some w.in_ok-set.set) y) (sym at)
          (btree_map_updates_str _ old w.insert.new.self (Some w.in_ok-set.set) w.in_ok-insert.ensures.updates))
          (w.in_ok-set.ensures m h))
      | else-is_key w ↦
          subst (λ d. Tabling m names d (place + 1)) (sym w.deps-is)
          (tabling-skip m names place old (c.loop-place.invariant m h) (λ k. let z : false ≡ true = sym w.if-is_key.false ∙ c.is_key.ensures ∙ of_key Enabling m names keys marks h place lt k in cc))
    ]

pub returns : goal.returns
returns c = λ m h.
    let routes = c.args.routes.now in
    tabling-end m (routed_names routes) c.loop-place.place c.loop-place.deps h.known
    (omega (arith, length-shown routes.names.items, ap length c.names-name-items.ensures, c.loop-place-test.false, c.loop-place.auto.place-end)) (c.loop-place.invariant m h)
