-- The runs handed out are the chosen piece.
use Rattle.std.proofs.Common.{◌≡◌, ◌⊎◌, inl, inr, ◌<◌, ◌≤◌, ◌+◌, ◌-◌, ◌*◌, ◌%◌, ℕ, suc, zero, length, get_or, take, drop, map, filter, Some, None, List, [], ◌∷◌, ◌++◌, refl, sym, ◌∙◌, ap, subst, arith, rules, Bool, true, false, Option, cond, append-nil, take-append-drop}
use Rattle.std.specs.Prelude.{All, AllPairs, Contains, IsTrue, ◌↔◌, slice_get, nat_lt, nat_le, nat_eq, ◌&&◌}
use Rattle.std.specs.Int.{div_ceil}
use Rattle.std.specs.List.{list_any, range_with_len}
use Rattle.std.proofs.lemmas.List.{take_all}
use Rattle.std.proofs.lemmas.List.Elements.{filter_map-append}
use Rattle.std.proofs.lemmas.List.FromFn.{length-range_with_len, get_or-range_with_len}
use Rattle.std.proofs.lemmas.List.Kept.{AllPairs-filter}
use Rattle.std.proofs.lemmas.Option.{slice_get_cases}
use Rattle.std.proofs.lemmas.Bool.Decides.{nat_tests}
use Rattle.hack_partition.specs.declared.partition.Partition.{Partition}
use Rattle.hack_partition.specs.declared.partition.PartitionKind.{PartitionKind}
use Rattle.hack_partition.specs.declared.partition.PartitionKind.TheVariants.{Block, Turn}
use Rattle.hack_partition.specs.Pieces.{InPiece}
use Rattle.hack_plan.specs.View.{PlanView}
use Rattle.hack_session.specs.declared.step.Step.{Step}
use Rattle.hack_session.specs.declared.step.Step.TheVariants.{Prepare, Skip, Run}
use Rattle.hack_session.specs.declared.step.Outcome.{Outcome}
use Rattle.hack_session.specs.declared.step.Outcome.TheVariants.{Passed}
use Rattle.hack_session.specs.declared.step.Handed.{Handed}
use Rattle.hack_session.specs.Histories.{Course, IsHistory, IsSameCourse, HasPassed, next_of, passed_step, stops, stops_at, step_of}
use Rattle.hack_session.specs.Schedules.{IsChosen, IsSchedule, in_kind, in_piece, is_place, mark}
use Rattle.hack_session.specs.Handouts.{ArePiece, HandsOut, run_place, run_places_of}

is_true : (b : Bool) → IsTrue b → b ≡ true
is_true true h = refl
is_true false h = search rules

so_true : (b : Bool) → b ≡ true → IsTrue b
so_true true e = search rules
so_true false e = search rules

block_test : (low high place : ℕ) → IsTrue (nat_le low place && nat_lt place high) ↔ ((low ≤ place) × (place < high))
block_test low high place = grind (arith, nat_tests)

turn_test : (a b : ℕ) → IsTrue (nat_eq a b) ↔ (a ≡ b)
turn_test a b = grind (arith, nat_tests)

kind_test : (kind : PartitionKind) (m count total place : ℕ) → IsTrue (in_kind kind m count total place) ↔ InPiece kind m count total place
kind_test Block m count total place = block_test ((m - 1) * div_ceil total count) (m * div_ceil total count) place
kind_test Turn m count total place = turn_test (place % count) (m - 1)

pub piece_test : (piece : Option Partition) (total : ℕ) → (place : ℕ) → place < total → IsTrue (in_piece piece total place) ↔ IsChosen piece total place
piece_test None total = λ place lt. search rules
piece_test (Some piece) total = λ place lt. kind_test piece.kind piece.piece piece.count total place

-- elements of a list with one more in front
front_or : {X : Type 0} (y : X) (ys : List X) (x : X) → Contains (y ∷ ys) x → (y ≡ x) ⊎ Contains ys x
front_or y ys x h = go h.0 h.1 h.2
  where
    go : (k : ℕ) → k < length (y ∷ ys) → get_or (y ∷ ys) k x ≡ x → (y ≡ x) ⊎ Contains ys x
    go zero lt e = inl e
    go (suc k) lt e = inr (k, omega arith, e)

behind : {X : Type 0} (y : X) (ys : List X) (x : X) → Contains ys x → Contains (y ∷ ys) x
behind y ys x h = (suc h.0, omega (arith, h.1), h.2)

kept_passes : (p : ℕ → Bool) (xs : List ℕ) (x : ℕ) → Contains (filter p xs) x → Contains xs x × (p x ≡ true)
kept_passes p [] x h = absurd (omega (arith, h.1))
kept_passes p (y ∷ ys) x h = go (p y) refl (kept_passes p ys x) h
  where
    go : (b : Bool) → p y ≡ b → (Contains (filter p ys) x → Contains ys x × (p x ≡ true)) → Contains (cond b (y ∷ filter p ys) (filter p ys)) x → Contains (y ∷ ys) x × (p x ≡ true)
    go false e rest h = let r = rest h in (behind y ys x r.0, r.1)
    go true e rest h = elim (front_or y (filter p ys) x h) [
      | inl is ↦ ((0, omega arith, is), ap p (sym is) ∙ e)
      | inr more ↦ (behind y ys x (rest more).0, (rest more).1)
    ]

passes_kept : (p : ℕ → Bool) (xs : List ℕ) (x : ℕ) → Contains xs x → p x ≡ true → Contains (filter p xs) x
passes_kept p [] x h t = absurd (omega (arith, h.1))
passes_kept p (y ∷ ys) x h t = go (p y) refl (λ k. passes_kept p ys x k t) (front_or y ys x h)
  where
    go : (b : Bool) → p y ≡ b → (Contains ys x → Contains (filter p ys) x) → ((y ≡ x) ⊎ Contains ys x) → Contains (cond b (y ∷ filter p ys) (filter p ys)) x
    go true e rest (inl is) = (0, omega arith, is)
    go true e rest (inr more) = behind y (filter p ys) x (rest more)
    go false e rest (inl is) = let no_way : p x ≡ false = ap p (sym is) ∙ e in absurd (cc)
    go false e rest (inr more) = rest more

in_range : (n x : ℕ) → Contains (range_with_len 0 n) x → x < n
in_range n x h =
    let lt : h.0 < n = omega (arith, h.1, length-range_with_len 0 n) in
    let e : get_or (range_with_len 0 n) h.0 x ≡ 0 + h.0 = get_or-range_with_len 0 n h.0 x lt in
    omega (arith, h.2)

range_has : (n x : ℕ) → x < n → Contains (range_with_len 0 n) x
range_has n x lt = (x, omega (arith, length-range_with_len 0 n), get_or-range_with_len 0 n x x lt ∙ zero_plus)
  where
    zero_plus : 0 + x ≡ x
    zero_plus = omega arith

range_rises : (n : ℕ) → AllPairs (λ a b. a < b) (range_with_len 0 n)
range_rises n = λ i j d lt l.
    let high : j < n = omega (arith, length-range_with_len 0 n) in
    let low : i < n = omega arith in
    let e : get_or (range_with_len 0 n) i d ≡ 0 + i = get_or-range_with_len 0 n i d low in
    let f : get_or (range_with_len 0 n) j d ≡ 0 + j = get_or-range_with_len 0 n j d high in
    omega arith

pub are_piece : (piece : Option Partition) (total : ℕ) (inside : ℕ → Bool) → ((place : ℕ) → place < total → IsTrue (inside place) ↔ IsChosen piece total place) → ArePiece piece total (filter inside (range_with_len 0 total))
are_piece piece total inside test = record {
  increasing = AllPairs-filter (λ a b. a < b) inside (range_with_len 0 total) (range_rises total);
  exact = λ place. (
    (λ h. let k = kept_passes inside (range_with_len 0 total) place h in
        let lt : place < total = in_range total place k.0 in
        (lt, (test place lt).0 (so_true (inside place) k.1))),
    (λ h. passes_kept inside (range_with_len 0 total) place (range_has total place h.0) (is_true (inside place) ((test place h.0).1 h.1))),
  );
}

-- the runs of marked places
marked : (inside : ℕ → Bool) (places : List ℕ) → run_places_of (map (mark inside) places) ≡ filter inside places
marked inside [] = refl
marked inside (p ∷ ps) = go (inside p) refl (marked inside ps)
  where
    go : (b : Bool) → inside p ≡ b → run_places_of (map (mark inside) ps) ≡ filter inside ps → run_places_of (map (mark inside) (p ∷ ps)) ≡ filter inside (p ∷ ps)
    go true e h = rw e (ap (λ (l : List ℕ). p ∷ l) h)
    go false e h = rw e h

-- steps at no place run nothing
only_places : (steps : List Step) → run_places_of (filter is_place steps) ≡ run_places_of steps
only_places [] = refl
only_places (Prepare p ∷ steps) = only_places steps
only_places (Skip p ∷ steps) = only_places steps
only_places (Run p ∷ steps) = ap (λ (l : List ℕ). p ∷ l) (only_places steps)

pub ends : (xs : List Step) (n : ℕ) → slice_get xs n ≡ None → length xs ≤ n
ends xs n e = elim (slice_get_cases xs n).1 [ inl w ↦ let f : slice_get xs n ≡ Some w.0 = w.2 in absurd (cc) | inr w ↦ omega arith ]

-- a complete history hands out the runs of its schedule, in order
pub hands_out : (piece : Option Partition) (t : Course) → IsSchedule piece t.plan t.schedule → IsHistory t → next_of t ≡ None → HandsOut piece (length t.plan.entries) t
hands_out piece t schedule history complete = go (list_any (stops t.keep_going) t.handed) refl
  where
    all : run_places_of t.schedule ≡ filter schedule.inside (range_with_len 0 (length t.plan.entries))
    all = sym (only_places t.schedule) ∙ ap run_places_of schedule.places ∙ marked schedule.inside (range_with_len 0 (length t.plan.entries))

    front : run_places_of t.schedule ≡ run_places_of (map step_of t.handed) ++ run_places_of (drop (length t.handed) t.schedule)
    front = ap run_places_of (sym (take-append-drop (length t.handed) t.schedule)) ∙ filter_map-append run_place (take (length t.handed) t.schedule) (drop (length t.handed) t.schedule)
        ∙ ap (λ (l : List Step). run_places_of l ++ run_places_of (drop (length t.handed) t.schedule)) (sym history.front)

    chosen : ArePiece piece (length t.plan.entries) (run_places_of t.schedule)
    chosen = subst (ArePiece piece (length t.plan.entries)) (sym all) (are_piece piece (length t.plan.entries) schedule.inside schedule.test)

    go : (b : Bool) → list_any (stops t.keep_going) t.handed ≡ b → HandsOut piece (length t.plan.entries) t
    go true e = record { places = run_places_of t.schedule; left = run_places_of (drop (length t.handed) t.schedule); chosen = chosen; in_order = front; until = inl e }
    go false e =
        let at : slice_get t.schedule (length t.handed) ≡ None = rw e at complete in
        let past : length t.schedule ≤ length t.handed = ends t.schedule (length t.handed) at in
        record { places = run_places_of t.schedule; left = []; chosen = chosen; in_order = ap run_places_of (sym (take_all (length t.handed) t.schedule past) ∙ sym history.front) ∙ sym (append-nil (run_places_of (map step_of t.handed))); until = inr refl }

tail_passed : (h : Handed) (hs : List Handed) → All HasPassed (h ∷ hs) → All HasPassed hs
tail_passed h hs a = λ k d l. a (suc k) d (omega arith)

passed_steps : (hs : List Handed) → All HasPassed hs → map passed_step (map step_of hs) ≡ hs
passed_steps [] a = refl
passed_steps (h ∷ hs) a =
    let e : h.outcome ≡ Passed = a 0 h (omega arith) in
    ap (λ (o : Outcome). record { step = h.step; outcome = o } ∷ map passed_step (map step_of hs)) (sym e) ∙ ap (λ (l : List Handed). h ∷ l) (passed_steps hs (tail_passed h hs a))

passed_goes : (keep : Bool) (step : Step) → stops_at keep step Passed ≡ false
passed_goes keep (Prepare p) = refl
passed_goes keep (Skip n) = refl
passed_goes keep (Run n) = refl

none_stops : (keep : Bool) (hs : List Handed) → All HasPassed hs → list_any (stops keep) hs ≡ false
none_stops keep [] a = refl
none_stops keep (h ∷ hs) a =
    let e : h.outcome ≡ Passed = a 0 h (omega arith) in
    let f : stops keep h ≡ false = ap (stops_at keep h.step) e ∙ passed_goes keep h.step in
    rw f (none_stops keep hs (tail_passed h hs a))

-- where each step passed, a complete history is the whole schedule
pub whole : (t : Course) → IsHistory t → next_of t ≡ None → All HasPassed t.handed → t.handed ≡ map passed_step t.schedule
whole t history complete all =
    let at : slice_get t.schedule (length t.handed) ≡ None = rw (none_stops t.keep_going t.handed all) at complete in
    let past : length t.schedule ≤ length t.handed = ends t.schedule (length t.handed) at in
    sym (passed_steps t.handed all) ∙ ap (map passed_step) (history.front ∙ take_all (length t.handed) t.schedule past)

pub schedule_of : (piece : Option Partition) (s t : Course) (plan : PlanView) → IsSameCourse t s → s.plan ≡ plan → IsSchedule piece plan s.schedule → IsSchedule piece t.plan t.schedule
schedule_of piece s t plan same e h =
    subst (λ (p : PlanView). IsSchedule piece p t.schedule) (sym (same.plan ∙ e)) (subst (IsSchedule piece plan) (sym same.schedule) h)
