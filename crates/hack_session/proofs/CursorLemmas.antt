-- The steps that are left at a cursor, and steps with their outcomes.
use Rattle.std.proofs.Common.{◌≡◌, ℕ, ◌+◌, ◌≤◌, List, [], ◌∷◌, ◌++◌, length, drop, refl, sym, ◌∙◌, ap, subst, arith, rules, Bool, true, false, suc, zero, Option, Some, None, IsSome, slice_get, length-drop, length-append, get_or, map, take}
use Rattle.std.specs.Prelude.{MatchOption}
use Rattle.std.specs.List.{flat_map, list_any}
use Rattle.std.proofs.lemmas.List.{drop-drop, drop_all, drop_more}
use Rattle.std.proofs.lemmas.Option.{get_or_from_slice_get, slice_get_past, slice_get_within}
use Rattle.hack_partition.specs.declared.partition.Partition.{Partition}
use Rattle.hack_plan.specs.declared.parts.PlanVersion.{PlanVersion}
use Rattle.hack_plan.specs.View.{PlanView}
use Rattle.hack_session.specs.declared.schedule.Cursor.{Cursor}
use Rattle.hack_session.specs.declared.step.Step.{Step}
use Rattle.hack_session.specs.declared.step.Outcome.{Outcome}
use Rattle.hack_session.specs.declared.step.Handed.{Handed}
use Rattle.hack_session.specs.Histories.{Hands, next_of, step_of, stops}
use Rattle.hack_session.specs.Schedules.{all_steps, in_piece, steps_of}
use Rattle.hack_session.specs.Cursors.{IsOnItsWay, course_of, steps_without_first, steps_left, with_outcomes}
use Rattle.hack_session.proofs.Headline.{ends}
use Rattle.hack_session.proofs.HistoryLemmas.{Goes, IsHistory-push, goes_on, hands, list_any-push, with_handed}

drop_at_some : {X : Type 0} (xs : List X) (i : ℕ) (x : X) → slice_get xs i ≡ Some x → drop i xs ≡ x ∷ drop (i + 1) xs
drop_at_some xs i x e = drop_more xs i x (slice_get_within xs i x e) ∙ ap (λ y. y ∷ drop (i + 1) xs) (get_or_from_slice_get xs i x x e)

-- at the start all steps are left
pub left_first : (inside : ℕ → Bool) (vs : List PlanVersion) → steps_without_first inside 0 (drop 0 vs) ≡ flat_map (steps_of inside) vs
left_first inside [] = refl
left_first inside (v ∷ vs) = refl

pub left_at_start : (piece : Option Partition) (plan : PlanView) (cursor : Cursor) → cursor.version ≡ 0 → cursor.taken ≡ 0 → steps_left piece plan cursor ≡ all_steps piece plan
left_at_start piece plan cursor e f =
    ap (λ (i : ℕ). steps_without_first (in_piece piece (length plan.entries)) cursor.taken (drop i plan.versions)) e ∙ ap (λ (n : ℕ). steps_without_first (in_piece piece (length plan.entries)) n (drop 0 plan.versions)) f
    ∙ left_first (in_piece piece (length plan.entries)) plan.versions

pub left_taken : (inside : ℕ → Bool) (vs : List PlanVersion) (i n : ℕ) (v : PlanVersion) (step : Step) → slice_get vs i ≡ Some v → slice_get (steps_of inside v) n ≡ Some step
    → steps_without_first inside n (drop i vs) ≡ step ∷ steps_without_first inside (n + 1) (drop i vs)
left_taken inside vs i n v step e f =
    let here : drop i vs ≡ v ∷ drop (i + 1) vs = drop_at_some vs i v e in
    rw here (ap (λ (l : List Step). l ++ flat_map (steps_of inside) (drop (i + 1) vs)) (drop_at_some (steps_of inside v) n step f))

-- a version whose steps were all taken
pub left_next : (inside : ℕ → Bool) (vs : List PlanVersion) (i n : ℕ) (v : PlanVersion) → slice_get vs i ≡ Some v → None ≡ slice_get (steps_of inside v) n
    → steps_without_first inside n (drop i vs) ≡ steps_without_first inside 0 (drop (i + 1) vs)
left_next inside vs i n v e f =
    let here : drop i vs ≡ v ∷ drop (i + 1) vs = drop_at_some vs i v e in
    let none : drop n (steps_of inside v) ≡ [] = drop_all n (steps_of inside v) (ends (steps_of inside v) n (sym f)) in
    rw here (ap (λ (l : List Step). l ++ flat_map (steps_of inside) (drop (i + 1) vs)) none ∙ sym (from_start (drop (i + 1) vs)))
  where
    from_start : (ws : List PlanVersion) → steps_without_first inside 0 ws ≡ flat_map (steps_of inside) ws
    from_start [] = refl
    from_start (w ∷ ws) = refl

-- no step has an outcome yet
pub no_outcomes : (ss : List Step) → with_outcomes ss [] ≡ []
no_outcomes [] = refl
no_outcomes (s ∷ ss) = refl

pub none_left : (ss : List Step) (os : List Outcome) → length os ≡ 0 → with_outcomes ss os ≡ []
none_left ss [] e = no_outcomes ss
none_left ss (o ∷ os) e = absurd (omega arith)

pub length-with_outcomes : (ss : List Step) (os : List Outcome) → length os ≤ length ss → length (with_outcomes ss os) ≡ length os
length-with_outcomes [] [] le = refl
length-with_outcomes [] (o ∷ os) le = absurd (omega arith)
length-with_outcomes (s ∷ ss) [] le = refl
length-with_outcomes (s ∷ ss) (o ∷ os) le = ap (λ (n : ℕ). suc n) (length-with_outcomes ss os (omega arith))

-- the outcome of one more step
pub with_outcomes-push : (ss : List Step) (os : List Outcome) (s : Step) (ts : List Step) (o : Outcome) → drop (length os) ss ≡ s ∷ ts → with_outcomes ss (os ++ o ∷ []) ≡ with_outcomes ss os ++ record { step = s; outcome = o } ∷ []
with_outcomes-push [] os s ts o e = let f : [] ≡ s ∷ ts = sym (drop_all (length os) [] (omega arith)) ∙ e in absurd (cc)
with_outcomes-push (r ∷ ss) [] s ts o e =
    let same : r ≡ s = cc in
    ap (λ (l : List Handed). record { step = r; outcome = o } ∷ l) (no_outcomes ss) ∙ ap (λ (x : Step). record { step = x; outcome = o } ∷ []) same
with_outcomes-push (r ∷ ss) (p ∷ os) s ts o e = ap (λ (l : List Handed). record { step = r; outcome = p } ∷ l) (with_outcomes-push ss os s ts o e)

some_at : (ss : List Step) (n : ℕ) (s : Step) (ts : List Step) → drop n ss ≡ s ∷ ts → slice_get ss n ≡ Some s
some_at [] zero s ts e = let f : [] ≡ s ∷ ts = e in absurd (cc)
some_at [] (suc n) s ts e = let f : [] ≡ s ∷ ts = e in absurd (cc)
some_at (r ∷ ss) zero s ts e = let same : r ≡ s = cc in ap Some same
some_at (r ∷ ss) (suc n) s ts e = some_at ss n s ts e

none_at : (ss : List Step) (n : ℕ) → drop n ss ≡ [] → slice_get ss n ≡ None
none_at ss n e = slice_get_past ss n (omega (arith, length-drop n ss, ap length e))

-- the next step is the first that is left, unless one stopped
pub next_is : (piece : Option Partition) (plan : PlanView) (cursor : Cursor) (outcomes : List Outcome) (keep stopped : Bool) (r : Option Step) (after : List Step) → IsOnItsWay piece plan cursor outcomes keep stopped → stopped ≡ false
    → MatchOption r ((steps_left piece plan cursor ≡ []) × (after ≡ [])) (λ step. steps_left piece plan cursor ≡ step ∷ after) → r ≡ next_of (course_of piece plan outcomes keep)
next_is piece plan cursor outcomes keep stopped r after way goes m =
    let none : list_any (stops keep) (with_outcomes (all_steps piece plan) outcomes) ≡ false = sym way.known ∙ goes in
    let at : length (with_outcomes (all_steps piece plan) outcomes) ≡ length outcomes = length-with_outcomes (all_steps piece plan) outcomes way.within in
    rw (none, at) (go r m)
  where
    go : (r : Option Step) → MatchOption r ((steps_left piece plan cursor ≡ []) × (after ≡ [])) (λ step. steps_left piece plan cursor ≡ step ∷ after) → r ≡ slice_get (all_steps piece plan) (length outcomes)
    go None m = sym (none_at (all_steps piece plan) (length outcomes) (sym way.left ∙ m.0))
    go (Some s) m = sym (some_at (all_steps piece plan) (length outcomes) s after (sym way.left ∙ m))

pub none_is_next : (piece : Option Partition) (plan : PlanView) (cursor : Cursor) (outcomes : List Outcome) (keep stopped : Bool) → IsOnItsWay piece plan cursor outcomes keep stopped → stopped ≡ true → None ≡ next_of (course_of piece plan outcomes keep)
none_is_next piece plan cursor outcomes keep stopped way stops_now =
    let some : list_any (stops keep) (with_outcomes (all_steps piece plan) outcomes) ≡ true = sym way.known ∙ stops_now in
    rw some refl

-- where there is a next step, none stopped
pub goes_still : (piece : Option Partition) (plan : PlanView) (cursor : Cursor) (outcomes : List Outcome) (keep stopped : Bool) → IsOnItsWay piece plan cursor outcomes keep stopped → IsSome (next_of (course_of piece plan outcomes keep)) → stopped ≡ false
goes_still piece plan cursor outcomes keep true way some =
    let none : None ≡ next_of (course_of piece plan outcomes keep) = none_is_next piece plan cursor outcomes keep true way refl in
    absurd (subst (λ (o : Option Step). IsSome o → ⊥) none (λ h. search rules) some)
goes_still piece plan cursor outcomes keep false way some = refl

-- one more step with its outcome
pub handed_more : (piece : Option Partition) (plan : PlanView) (old : Cursor) (outcomes : List Outcome) (keep stopped : Bool) (step : Step) (after : List Step) (outcome : Outcome) → IsOnItsWay piece plan old outcomes keep stopped → steps_left piece plan old ≡ step ∷ after
    → course_of piece plan (outcomes ++ outcome ∷ []) keep ≡ with_handed (course_of piece plan outcomes keep) (record { step = step; outcome = outcome })
handed_more piece plan old outcomes keep stopped step after outcome way e =
    ap (λ (l : List Handed). record { plan = plan; schedule = all_steps piece plan; handed = l; keep_going = keep }) (with_outcomes-push (all_steps piece plan) outcomes step after outcome (sym way.left ∙ e))

-- the step that is taken is the next of the schedule
pub stands : (piece : Option Partition) (plan : PlanView) (old : Cursor) (outcomes : List Outcome) (keep stopped : Bool) (step : Step) (after : List Step) → IsOnItsWay piece plan old outcomes keep stopped → steps_left piece plan old ≡ step ∷ after
    → step ≡ get_or (all_steps piece plan) (length (with_outcomes (all_steps piece plan) outcomes)) step
stands piece plan old outcomes keep stopped step after way e =
    rw (length-with_outcomes (all_steps piece plan) outcomes way.within) (sym (get_or_from_slice_get (all_steps piece plan) (length outcomes) step step (some_at (all_steps piece plan) (length outcomes) step after (sym way.left ∙ e))))

pub done_is : (piece : Option Partition) (plan : PlanView) (old : Cursor) (outcomes : List Outcome) (keep stopped : Bool) (step : Step) (after : List Step) (outcome : Outcome) → IsOnItsWay piece plan old outcomes keep stopped → IsSome (next_of (course_of piece plan outcomes keep)) → steps_left piece plan old ≡ step ∷ after
    → Hands (course_of piece plan outcomes keep) outcome (course_of piece plan (outcomes ++ outcome ∷ []) keep)
done_is piece plan old outcomes keep stopped step after outcome way some e =
    rw (handed_more piece plan old outcomes keep stopped step after outcome way e)
    (hands (course_of piece plan outcomes keep) step outcome (goes_on (course_of piece plan outcomes keep) step some) (stands piece plan old outcomes keep stopped step after way e))

pub on_its_way : (piece : Option Partition) (plan : PlanView) (old new : Cursor) (outcomes : List Outcome) (keep stopped : Bool) (step : Step) (outcome : Outcome) → IsOnItsWay piece plan old outcomes keep stopped → IsSome (next_of (course_of piece plan outcomes keep)) → steps_left piece plan old ≡ step ∷ steps_left piece plan new
    → IsOnItsWay piece plan new (outcomes ++ outcome ∷ []) keep (stops keep (record { step = step; outcome = outcome }))
on_its_way piece plan old new outcomes keep stopped step outcome way some e =
    let goes : Goes (course_of piece plan outcomes keep) step = goes_on (course_of piece plan outcomes keep) step some in
    let at : drop (length outcomes) (all_steps piece plan) ≡ step ∷ steps_left piece plan new = sym way.left ∙ e in
    let more : length (outcomes ++ outcome ∷ []) ≡ length outcomes + 1 = length-append outcomes (outcome ∷ []) in
    let all = all_steps piece plan in
    record {
      within = omega (arith, more, length-drop (length outcomes) (all_steps piece plan), ap length at);
      left = ap (drop 1) (sym at) ∙ drop-drop 1 (length outcomes) all ∙ ap (λ (n : ℕ). drop n all) (sym more);
      known = sym (ap (list_any (stops keep)) (with_outcomes-push all outcomes step (steps_left piece plan new) outcome at) ∙ list_any-push (stops keep) (with_outcomes all outcomes) (record { step = step; outcome = outcome }) goes.none);
      history = rw (handed_more piece plan old outcomes keep stopped step (steps_left piece plan new) outcome way e)
          (IsHistory-push (course_of piece plan outcomes keep) (record { step = step; outcome = outcome }) step way.history goes (stands piece plan old outcomes keep stopped step (steps_left piece plan new) way e));
    }

-- no step was handed out yet
pub sets_out : (piece : Option Partition) (plan : PlanView) (cursor : Cursor) (keep : Bool) → cursor.version ≡ 0 → cursor.taken ≡ 0 → IsOnItsWay piece plan cursor [] keep false
sets_out piece plan cursor keep e f = record {
  within = omega arith;
  left = left_at_start piece plan cursor e f ∙ whole (all_steps piece plan);
  known = sym (ap (list_any (stops keep)) (no_outcomes (all_steps piece plan)));
  history = record { front = ap (map step_of) (no_outcomes (all_steps piece plan)) ∙ none_taken; goes = λ k d lt. absurd (omega (arith, ap length (no_outcomes (all_steps piece plan)))) };
}
  where
    whole : (ss : List Step) → ss ≡ drop 0 ss
    whole [] = refl
    whole (s ∷ ss) = refl

    front : (ss : List Step) (n : ℕ) → n ≡ 0 → [] ≡ take n ss
    front [] zero z = refl
    front (s ∷ ss) zero z = refl
    front ss (suc n) z = absurd (omega arith)

    none_taken : [] ≡ take (length (with_outcomes (all_steps piece plan) [])) (all_steps piece plan)
    none_taken = front (all_steps piece plan) (length (with_outcomes (all_steps piece plan) [])) (ap length (no_outcomes (all_steps piece plan)))
