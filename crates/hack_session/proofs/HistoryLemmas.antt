-- A history with one more step.
use Rattle.std.proofs.Common.{◌≡◌, ℕ, ◌<◌, List, [], ◌∷◌, ◌++◌, length, take, arith, refl, inl, inr, rules, ap, sym, ◌∙◌, get_or, cond, Bool, true, false, Option, Some, None, IsSome, slice_get, ◌||◌, length-append, append-nil, append_assoc}
use Rattle.std.specs.List.{list_any}
use Rattle.std.proofs.lemmas.List.{take_more, map-append, get_or_append_left}
use Rattle.std.proofs.lemmas.List.Folds.{list_any-append, list_any_at}
use Rattle.std.proofs.lemmas.Option.{slice_get_cases, slice_get-get_or}
use Rattle.hack_session.specs.declared.step.Step.{Step}
use Rattle.hack_session.specs.declared.step.Handed.{Handed}
use Rattle.hack_session.specs.declared.step.Outcome.{Outcome}
use Rattle.hack_session.specs.Histories.{Course, IsHistory, next_of, stops, step_of, Hands}

-- there is a next step only where none stopped and the schedule goes on
pub record Goes (t : Course) (d : Step) : Type 0 where
  pub none : list_any (stops t.keep_going) t.handed ≡ false
  pub more : length t.handed < length t.schedule
  pub next : next_of t ≡ Some (get_or t.schedule (length t.handed) d)

none_is : (o : Option Step) → o ≡ None → IsSome o → ⊥
none_is None n s = cc
none_is (Some x) n s = cc

some_within : (xs : List Step) (n : ℕ) → IsSome (slice_get xs n) → n < length xs
some_within xs n s = elim (slice_get_cases xs n).1 [ inl w ↦ w.1 | inr w ↦ absurd (none_is (slice_get xs n) w.1 s) ]

pub goes_on : (t : Course) (d : Step) → IsSome (next_of t) → Goes t d
goes_on t d h = go (list_any (stops t.keep_going) t.handed) refl h
  where
    go : (b : Bool) → list_any (stops t.keep_going) t.handed ≡ b → IsSome (cond b None (slice_get t.schedule (length t.handed))) → Goes t d
    go true e k = absurd (search rules)
    go false e k =
        let inside : length t.handed < length t.schedule = some_within t.schedule (length t.handed) k in
        record { none = e; more = inside; next = rw e (slice_get-get_or t.schedule (length t.handed) d inside) }

pub list_any-push : {X : Type 0} (p : X → Bool) (xs : List X) (x : X) → list_any p xs ≡ false → list_any p (xs ++ x ∷ []) ≡ p x
list_any-push p xs x h = list_any-append p xs (x ∷ []) ∙ rw h (last (p x))
  where
    last : (b : Bool) → (false || (b || false)) ≡ b
    last true = refl
    last false = refl

pub list_any-none : {X : Type 0} (p : X → Bool) (xs : List X) (k : ℕ) (d : X) → list_any p xs ≡ false → k < length xs → p (get_or xs k d) ≡ false
list_any-none p xs k d h l = go (p (get_or xs k d)) refl
  where
    go : (b : Bool) → p (get_or xs k d) ≡ b → p (get_or xs k d) ≡ false
    go false e = e
    go true e = let f : list_any p xs ≡ true = list_any_at p xs k d l e in cc

pub IsHistory-push : (t : Course) (h : Handed) (d : Step) → IsHistory t → Goes t d → h.step ≡ get_or t.schedule (length t.handed) d → IsHistory (record { plan = t.plan; schedule = t.schedule; handed = t.handed ++ h ∷ []; keep_going = t.keep_going })
IsHistory-push t h d old g e = record {
  front = map-append step_of t.handed (h ∷ []) ∙ ap (λ ss. ss ++ step_of h ∷ []) old.front ∙ ap (λ (x : Step). take (length t.handed) t.schedule ++ x ∷ []) e
      ∙ sym (take_more t.schedule (length t.handed) d g.more) ∙ ap (λ (n : ℕ). take n t.schedule) (sym (length-append t.handed (h ∷ [])));
  goes = λ k x l.
      let inside : k < length t.handed = omega (arith, length-append t.handed (h ∷ [])) in
      rw (get_or_append_left t.handed (h ∷ []) x k inside) (list_any-none (stops t.keep_going) t.handed k x g.none inside);
}

-- the record of a history with a step more
abbrev pub with_handed : Course → Handed → Course
with_handed t h = record { plan = t.plan; schedule = t.schedule; handed = t.handed ++ h ∷ []; keep_going = t.keep_going }

pub hands : (t : Course) (step : Step) (outcome : Outcome) → Goes t step → step ≡ get_or t.schedule (length t.handed) step → Hands t outcome (with_handed t (record { step = step; outcome = outcome }))
hands t step outcome g e = rw (g.next ∙ ap Some (sym e)) refl

-- the steps that were taken and those that are left are all
pub taken_more : (taken left rest all : List Handed) (h : Handed) → left ≡ h ∷ rest → taken ++ left ≡ all → (taken ++ h ∷ []) ++ rest ≡ all
taken_more taken left rest all h e s = append_assoc taken (h ∷ []) rest ∙ ap (λ (l : List Handed). taken ++ l) (sym e) ∙ s

pub taken_all : (taken left all : List Handed) → left ≡ [] → taken ++ left ≡ all → taken ≡ all
taken_all taken left all e s = sym (append-nil taken) ∙ ap (λ (l : List Handed). taken ++ l) (sym e) ∙ s
