-- The places and the steps of a plan.
use Rattle.std.proofs.Common.{◌≡◌, ℕ, ◌+◌, ◌-◌, ◌<◌, ◌≤◌, List, [], ◌∷◌, ◌++◌, map, filter, length, get_or, take, refl, sym, ◌∙◌, ap, subst, arith, rules, Bool, true, false, suc, zero, cond, append-nil, Option, Some, None, length-append}
use Rattle.std.specs.Prelude.{slice_get}
use Rattle.std.specs.List.{flat_map, range_with_len}
use Rattle.std.proofs.lemmas.List.{length-map, take_more}
use Rattle.std.proofs.lemmas.List.Elements.{filter-append}
use Rattle.std.proofs.lemmas.List.Folds.{length-flat_map-take}
use Rattle.std.proofs.lemmas.List.FromFn.{length-map-range_with_len, get_or-map-range_with_len}
use Rattle.std.proofs.lemmas.Option.{none-some, same_Some, slice_get-get_or, slice_get_past, slice_get_read}
use Rattle.std.proofs.lemmas.Grind.{flat_map-append, common_steps}
use Rattle.hack_partition.specs.declared.partition.Partition.{Partition}
use Rattle.hack_plan.specs.declared.parts.Preparation.{Preparation}
use Rattle.hack_plan.specs.declared.parts.PlanVersion.{PlanVersion}
use Rattle.hack_plan.specs.Spans.{AreTiled}
use Rattle.hack_plan.specs.Prepared.{span_of}
use Rattle.hack_plan.specs.View.{PlanView}
use Rattle.hack_session.specs.declared.step.Step.{Step}
use Rattle.hack_session.specs.declared.step.Step.TheVariants.{Prepare, Skip, Run}
use Rattle.hack_session.specs.Schedules.{IsSchedule, all_steps, in_piece, mark, steps_of, is_place}
use Rattle.hack_session.proofs.Headline.{piece_test}

pub range_join : (a m n : ℕ) → range_with_len a (m + n) ≡ range_with_len a m ++ range_with_len (a + m) n
range_join a zero n =
    let e : zero + n ≡ n = omega arith in
    let f : a + zero ≡ a = omega arith in
    rw (e, f) refl
range_join a (suc m) n =
    let e : suc m + n ≡ suc (m + n) = omega arith in
    let f : a + suc m ≡ a + 1 + m = omega arith in
    rw (e, f) (ap (λ (l : List ℕ). a ∷ l) (range_join (a + 1) m n))

map_append : {X Y : Type 0} (f : X → Y) (xs ys : List X) → map f (xs ++ ys) ≡ map f xs ++ map f ys
map_append f xs ys = search (rules, common_steps)

tiled_order : (from : ℕ) (vs : List PlanVersion) (to : ℕ) → AreTiled from (map span_of vs) to → from ≤ to
tiled_order from [] to t = omega (arith, t)
tiled_order from (v ∷ vs) to t = omega (arith, t.1, tiled_order v.end vs to t.2)

no_places : (ps : List Preparation) → filter is_place (map Prepare ps) ≡ []
no_places [] = refl
no_places (p ∷ ps) = no_places ps

marked_place : (inside : ℕ → Bool) (p : ℕ) → is_place (mark inside p) ≡ true
marked_place inside p = go (inside p)
  where
    go : (b : Bool) → is_place (cond b (Run p) (Skip p)) ≡ true
    go true = refl
    go false = refl

all_places : (inside : ℕ → Bool) (ps : List ℕ) → filter is_place (map (mark inside) ps) ≡ map (mark inside) ps
all_places inside [] = refl
all_places inside (p ∷ ps) = rw (marked_place inside p) (ap (λ (l : List Step). mark inside p ∷ l) (all_places inside ps))

-- the places of versions that share them out
laid_places : (inside : ℕ → Bool) (from : ℕ) (vs : List PlanVersion) (to : ℕ) → AreTiled from (map span_of vs) to → filter is_place (flat_map (steps_of inside) vs) ≡ map (mark inside) (range_with_len from (to - from))
laid_places inside from [] to t = ap (λ (n : ℕ). map (mark inside) (range_with_len from n)) gap
  where
    gap : 0 ≡ to - from
    gap = omega (arith, t)
laid_places inside from (v ∷ vs) to t =
    filter-append is_place (steps_of inside v) (flat_map (steps_of inside) vs)
    ∙ ap (λ (l : List Step). l ++ filter is_place (flat_map (steps_of inside) vs)) (filter-append is_place (map Prepare v.preparations.items) (map (mark inside) (range_with_len v.first (v.end - v.first))) ∙ ap (λ (l : List Step). l ++ filter is_place (map (mark inside) (range_with_len v.first (v.end - v.first)))) (no_places v.preparations.items) ∙ all_places inside (range_with_len v.first (v.end - v.first)) ∙ ap (λ (k : ℕ). map (mark inside) (range_with_len k (v.end - k))) t.0)
    ∙ ap (λ (l : List Step). map (mark inside) (range_with_len from (v.end - from)) ++ l) (laid_places inside v.end vs to t.2)
    ∙ sym (map_append (mark inside) (range_with_len from (v.end - from)) (range_with_len v.end (to - v.end)))
    ∙ ap (map (mark inside)) (ap (λ (k : ℕ). range_with_len from (v.end - from) ++ range_with_len k (to - v.end)) (sym seam) ∙ sym (range_join from (v.end - from) (to - v.end)) ∙ ap (range_with_len from) total)
  where
    order : v.end ≤ to
    order = tiled_order v.end vs to t.2

    seam : from + (v.end - from) ≡ v.end
    seam = omega (arith, t.1)

    total : v.end - from + (to - v.end) ≡ to - from
    total = omega (arith, t.1, order)

-- the steps of a plan are its schedule
pub schedule_is : (piece : Option Partition) (plan : PlanView) → AreTiled 0 (map span_of plan.versions) (length plan.entries) → IsSchedule piece plan (all_steps piece plan)
schedule_is piece plan t = record {
  inside = in_piece piece (length plan.entries);
  test = piece_test piece (length plan.entries);
  places = laid_places (in_piece piece (length plan.entries)) 0 plan.versions (length plan.entries) t ∙ ap (λ (n : ℕ). map (mark (in_piece piece (length plan.entries))) (range_with_len 0 n)) whole;
  steps = refl;
}
  where
    whole : length plan.entries - 0 ≡ length plan.entries
    whole = omega arith

-- the places of a version are some of the plan's
pub tiled_at : (from : ℕ) (vs : List PlanVersion) (to i : ℕ) (v : PlanVersion) → AreTiled from (map span_of vs) to → slice_get vs i ≡ Some v → (v.first ≤ v.end) × (v.end ≤ to)
tiled_at from [] to i v t e = absurd (none-some v e)
tiled_at from (w ∷ vs) to zero v t e =
    subst (λ (x : PlanVersion). (x.first ≤ x.end) × (x.end ≤ to)) (same_Some w v e) (omega (arith, t.0, t.1), tiled_order w.end vs to t.2)
tiled_at from (w ∷ vs) to (suc i) v t e = tiled_at w.end vs to i v t.2 e

pub found : (vs ws : List PlanVersion) (i : ℕ) (v : PlanVersion) → ws ≡ vs → i < length ws → v ≡ get_or ws i v → slice_get vs i ≡ Some v
found vs ws i v e lt is = sym (ap (λ (l : List PlanVersion). slice_get l i) e) ∙ slice_get_read ws (length ws) i v refl lt is

past_prepared : (ps : List Preparation) (ms : List Step) (n : ℕ) → length ps ≤ n → slice_get (map Prepare ps ++ ms) n ≡ slice_get ms (n - length ps)
past_prepared [] ms n le = ap (slice_get ms) whole
  where
    whole : n ≡ n - 0
    whole = omega arith
past_prepared (q ∷ ps) ms zero le = absurd (omega arith)
past_prepared (q ∷ ps) ms (suc n) le = past_prepared ps ms n (omega arith) ∙ ap (slice_get ms) one_less
  where
    one_less : n - length ps ≡ suc n - suc (length ps)
    one_less = omega arith

-- then its places
pub step_placed : (inside : ℕ → Bool) (v : PlanVersion) (n place : ℕ) → length v.preparations.items ≤ n → place ≡ n - length v.preparations.items → place < v.end - v.first → slice_get (steps_of inside v) n ≡ Some (mark inside (v.first + place))
step_placed inside v n place le is lt =
    past_prepared v.preparations.items (map (mark inside) (range_with_len v.first (v.end - v.first))) n le ∙ ap (slice_get (map (mark inside) (range_with_len v.first (v.end - v.first)))) (sym is)
    ∙ slice_get-get_or (map (mark inside) (range_with_len v.first (v.end - v.first))) place (mark inside v.first) (omega (arith, length-map-range_with_len (mark inside) v.first (v.end - v.first)))
    ∙ ap Some (get_or-map-range_with_len (mark inside) v.first (v.end - v.first) place (v.first + place) (mark inside v.first) lt refl)

pub step_past : (inside : ℕ → Bool) (v : PlanVersion) (n place : ℕ) → length v.preparations.items ≤ n → place ≡ n - length v.preparations.items → v.end - v.first ≤ place → None ≡ slice_get (steps_of inside v) n
step_past inside v n place le is past =
    sym (past_prepared v.preparations.items (map (mark inside) (range_with_len v.first (v.end - v.first))) n le ∙ ap (slice_get (map (mark inside) (range_with_len v.first (v.end - v.first)))) (sym is)
    ∙ slice_get_past (map (mark inside) (range_with_len v.first (v.end - v.first))) place (omega (arith, length-map-range_with_len (mark inside) v.first (v.end - v.first))))

-- how many steps a version has
pub length-steps_of : (inside : ℕ → Bool) (v : PlanVersion) → length (steps_of inside v) ≡ length v.preparations.items + (v.end - v.first)
length-steps_of inside v =
    length-append (map Prepare v.preparations.items) (map (mark inside) (range_with_len v.first (v.end - v.first)))
    ∙ ap (λ (n : ℕ). n + length (map (mark inside) (range_with_len v.first (v.end - v.first)))) (length-map v.preparations.items Prepare)
    ∙ ap (λ (n : ℕ). length v.preparations.items + n) (length-map-range_with_len (mark inside) v.first (v.end - v.first))

-- the steps of one more version
pub counted_more : (inside : ℕ → Bool) (vs : List PlanVersion) (i : ℕ) (v : PlanVersion) (count own : ℕ) → i < length vs → v ≡ get_or vs i v → own ≡ length v.preparations.items → count ≡ length (flat_map (steps_of inside) (take i vs))
    → count + own + (v.end - v.first) ≡ length (flat_map (steps_of inside) (take (i + 1) vs))
counted_more inside vs i v count own lt is o e = sum ∙ sym more
  where
    more : length (flat_map (steps_of inside) (take (i + 1) vs)) ≡ length (flat_map (steps_of inside) (take i vs)) + (length v.preparations.items + (v.end - v.first))
    more = ap (λ (l : List PlanVersion). length (flat_map (steps_of inside) l)) (take_more vs i v lt ∙ ap (λ (x : PlanVersion). take i vs ++ x ∷ []) (sym is))
        ∙ ap length (flat_map-append (steps_of inside) (take i vs) (v ∷ []) ∙ ap (λ (l : List Step). flat_map (steps_of inside) (take i vs) ++ l) (append-nil (steps_of inside v)))
        ∙ length-append (flat_map (steps_of inside) (take i vs)) (steps_of inside v)
        ∙ ap (λ (n : ℕ). length (flat_map (steps_of inside) (take i vs)) + n) (length-steps_of inside v)

    sum : count + own + (v.end - v.first) ≡ length (flat_map (steps_of inside) (take i vs)) + (length v.preparations.items + (v.end - v.first))
    sum = omega (arith, o, e)

-- those of some versions and of one more are no more than those of all
pub counted_less : (inside : ℕ → Bool) (vs ws : List PlanVersion) (i : ℕ) (v : PlanVersion) (count own : ℕ) → ws ≡ vs → i < length ws → v ≡ get_or ws i v → own ≡ length v.preparations.items → count ≡ length (flat_map (steps_of inside) (take i ws))
    → count + own + (v.end - v.first) ≤ length (flat_map (steps_of inside) vs)
counted_less inside vs ws i v count own same lt is o e =
    omega (arith, length-flat_map-take (steps_of inside) ws i v lt, ap (λ (x : PlanVersion). length (steps_of inside x)) is, length-steps_of inside v, ap (λ (l : List PlanVersion). length (flat_map (steps_of inside) l)) same)
