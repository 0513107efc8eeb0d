use Rattle.std.proofs.Common.{◌≡◌, ◌<◌, ◌≤◌, [], ℕ, List, length, get_or, sym, ap, ◌∙◌, subst, Contains, All, arith, replicate, false}
use Rattle.std.proofs.lemmas.List.{length-map, length-replicate, get_or_default}
use Rattle.hack_samples.specs.Sets.{rows_of}
use Rattle.hack_routes.specs.InternalPlaces.{AddsPlaces, AreMarked}
use Rattle.hack_base.proofs.Steps.{row_items}
use Rattle.hack_routes.proofs.MarkLemmas.{marked-none, marked-few, marking-start, marking-next, marking-end, inside_of}
use Rattle.hack_routes.proofs.marks.mark_reached.Goals as goal

pub mark-requires-clause-marked : goal.mark-requires-clause-marked
mark-requires-clause-marked c =
    subst (λ marks. AreMarked marks c.new.result.items) (sym (c.in_ok-vec.ensures.items_if_clones_equal (λ y e. e)))
    (subst (AreMarked (replicate (length c.args.rows.now) false)) (sym c.new.ensures.items) (marked-none (length c.args.rows.now)))

pub loop-next-init : goal.loop-next-init
loop-next-init c =
    let rows : List (List ℕ) = rows_of c.args.rows.now in
    let count : length rows ≡ length c.args.rows.now = length-map c.args.rows.now row_items in
    record {
      marked = c.in_ok-mark.ensures.marked;
      size = c.mark.ensures.size ∙ ap length (c.in_ok-vec.ensures.items_if_clones_equal (λ y e. e)) ∙ length-replicate (length c.args.rows.now) false;
      marking = marking-start rows c.args.start c.mark.new.self.order.items (omega (arith, c.requires.start, count))
          (subst (λ l. AddsPlaces (λ j. c.args.start ≡ j) l c.mark.new.self.order.items) c.new.ensures.items c.in_ok-mark.ensures.adds);
    }

pub mark_all-requires-clause-within : goal.mark_all-requires-clause-within
mark_all-requires-clause-within c =
    let rows : List (List ℕ) = rows_of c.args.rows.now in
    let order : List ℕ = c.loop-next.found.order.items in
    let place : ℕ = c.index-place.result.now in
    let count : length rows ≡ length c.args.rows.now = length-map c.args.rows.now row_items in
    let there : Contains order place = (c.loop-next.next, omega (arith, c.loop-next.found.order.ok.0), sym c.index-place.ensures) in
    let below = c.loop-next.invariant.marking.below place there in
    subst (λ n. All (λ p. p < n) c.row_at.result.now) (sym c.loop-next.invariant.size)
    (subst (All (λ p. p < length c.args.rows.now)) (sym c.row_at.ensures) (c.requires.within place [] below))

pub loop-next-smaller : goal.loop-next-smaller
loop-next-smaller c =
    let few : length c.loop-next.found.order.items ≤ length c.loop-next.found.marks.items = marked-few c.loop-next.found.marks.items c.loop-next.found.order.items c.loop-next.invariant.marked in
    omega (arith, c.loop-next.invariant.size, c.loop-next.found.order.ok.0)

pub loop-next-preserved : goal.loop-next-preserved
loop-next-preserved c =
    let rows : List (List ℕ) = rows_of c.args.rows.now in
    let order : List ℕ = c.loop-next.found.order.items in
    let next : ℕ = c.loop-next.next in
    let lt : next < length order = omega (arith, c.loop-next.found.order.ok.0) in
    let count : length rows ≡ length c.args.rows.now = length-map c.args.rows.now row_items in
    let place : c.index-place.result.now ≡ get_or order next 0 = c.index-place.ensures ∙ get_or_default order next c.index-place.result.now 0 lt in
    record {
      marked = c.in_ok-mark_all.ensures.marked;
      size = c.mark_all.ensures.size ∙ c.loop-next.invariant.size;
      marking = marking-next rows c.args.start order c.mark_all.new.self.order.items next
          (λ i j l w. subst (λ n. j < n) (sym count) (inside_of (length c.args.rows.now) rows count c.requires.within i j (subst (λ n. i < n) count l) w))
          c.loop-next.invariant.marking lt
          (subst (λ row. AddsPlaces (Contains row) order c.mark_all.new.self.order.items) (c.row_at.ensures ∙ ap (λ p. get_or rows p []) place) c.in_ok-mark_all.ensures.adds);
    }

pub returns : goal.returns
returns c = marking-end (rows_of c.args.rows.now) c.args.start c.loop-next.found.marks.items c.loop-next.found.order.items c.loop-next.next c.loop-next.invariant.marking (omega (arith, c.loop-next.found.order.ok.0)) c.loop-next.invariant.marked
