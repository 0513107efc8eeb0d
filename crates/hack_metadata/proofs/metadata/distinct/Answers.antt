use Rattle.std.proofs.Common.{◌<◌, map, length, get_or, ap, sym, subst}
use Rattle.std.specs.List.{list_any}
use Rattle.std.specs.BTreeMap.{is_at}
use Rattle.std.specs.Ordering.{nat_cmp}
use Rattle.std.proofs.lemmas.List.{get_or-map, length-map}
use Rattle.hack_metadata.specs.RecordViews.{place_at}
use Rattle.hack_metadata.proofs.IdLemmas.{AreKept, kept-none, kept-turn}
use Rattle.hack_metadata.proofs.metadata.distinct.Goals as goal

pub loop-id-preserved : goal.loop-id-preserved
loop-id-preserved c =
    let ids = c.args.ids.now in
    let k = c.loop-id.id-index in
    let x = (get_or ids k (record { index = 0 })).index in
    let below : k < length (map place_at ids) = rw (length-map ids place_at) c.loop-id-test.true in
    kept-turn (map place_at ids) k x (map place_at c.loop-id.kept.items) (map place_at c.keep.new.kept.items) c.loop-id.seen c.keep.new.seen below
    (sym (get_or-map place_at ids k (record { index = 0 }) x c.loop-id-test.true)) c.in_ok-keep.ensures.kept c.in_ok-keep.ensures.seen c.loop-id.invariant

pub loop-id-init : goal.loop-id-init
loop-id-init c =
    subst (λ kept. AreKept (map place_at c.args.ids.now) 0 (map place_at kept) c.new-seen.result) (sym c.new-kept.ensures.items)
    (kept-none (map place_at c.args.ids.now) c.new-seen.result (λ y. ap (list_any (is_at (nat_cmp y))) c.new-seen.ensures.empty))
