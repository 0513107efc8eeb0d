-- Runs that failed, in whose sets no conflict lies.
use Rattle.std.specs.Prelude.{ℕ, ◌≡◌, ◌<◌, ◌+◌, ◌-◌, ◌⊎◌, Bool, Contains, true, false, List, [], ◌∷◌, ◌++◌, All, MatchBool, MatchOption, Option, None, Some, drop, length, take, if◌then◌else◌}
use Rattle.std.proofs.Common.{ap, inl, inr, sym, subst, refl, ◌∙◌, arith, get_or}
use Rattle.std.proofs.lemmas.Bool.{cases_order}
use Rattle.std.proofs.lemmas.List.{drop-append-le, drop_all, get_or-drop, get_or-map, get_or_append_left, get_or_default, get_or_push, length-append, length-drop, length-map, length-take, take_more}
use Rattle.std.proofs.lemmas.List.Elements.{All-append, All-cons, All-contains, All-nil, Contains-get_or}
use Rattle.hack_conflicts.specs.Runs.{AreBlamed, Finding, HasFailed, IsClear, IsFinding, IsOpen, IsToldOf, IsUnfinished, Run, run_of, runs_in}
use Rattle.hack_conflicts.specs.Sets.{HasInside, IsWithin}
use Rattle.hack_conflicts.specs.declared.rules.Rules.{Rules}
use Rattle.hack_conflicts.specs.declared.tried.BuildOutcome.{BuildOutcome}
use Rattle.hack_conflicts.specs.declared.tried.BuildOutcome.TheVariants.{Failed, Broken}
use Rattle.hack_conflicts.specs.declared.tried.Tried.{Tried}

-- the last of some runs that is open, if one is
abbrev pub IsLastOpen : List (List Bool) → Option ℕ → List Run → Type 0
IsLastOpen conflicts last runs = MatchOption last (All (IsToldOf conflicts) runs) (IsOpen runs conflicts)

-- no run, and then one more
told_alone : (conflicts : List (List Bool)) (run : Run) → IsToldOf conflicts run → All (IsToldOf conflicts) (run ∷ [])
told_alone conflicts run told = All-cons (IsToldOf conflicts) run [] told (All-nil (IsToldOf conflicts))

open_push : (conflicts : List (List Bool)) (runs : List Run) (run : Run) (clear : Bool) → MatchBool clear (IsClear conflicts run) (IsToldOf conflicts run)
    → (last : Option ℕ) → IsLastOpen conflicts last runs → IsLastOpen conflicts (if clear then Some (length runs) else last) (runs ++ run ∷ [])
open_push conflicts runs run true is last before =
    let more : length (runs ++ run ∷ []) ≡ length runs + 1 = length-append runs (run ∷ []) in (
      omega (arith, more),
      subst (IsClear conflicts) (sym (get_or_push runs run (record { set = []; outcome = Broken }) (length runs) refl)) is,
      subst (All (IsToldOf conflicts)) (sym (drop_all (length runs + 1) (runs ++ run ∷ []) (omega (arith, more)))) (All-nil (IsToldOf conflicts)),
    )
open_push conflicts runs run false is None before = All-append (IsToldOf conflicts) runs (run ∷ []) before (told_alone conflicts run is)
open_push conflicts runs run false is (Some place) before =
    let more : length (runs ++ run ∷ []) ≡ length runs + 1 = length-append runs (run ∷ []) in (
      omega (arith, more, before.0),
      subst (IsClear conflicts) (sym (get_or_append_left runs (run ∷ []) (record { set = []; outcome = Broken }) place before.0)) before.1,
      subst (All (IsToldOf conflicts)) (sym (drop-append-le (place + 1) runs (run ∷ []) (omega (arith, before.0)))) (All-append (IsToldOf conflicts) (drop (place + 1) runs) (run ∷ []) before.2 (told_alone conflicts run is)),
    )

-- one run more
pub open_step : (tried : List Tried) (conflicts : List (List Bool)) (k : ℕ) (one : Tried) → k < length tried → one ≡ get_or tried k one → (clear : Bool) → MatchBool clear (IsClear conflicts (run_of one)) (IsToldOf conflicts (run_of one))
    → (old new : Option ℕ) → new ≡ (if clear then Some k else old) → IsLastOpen conflicts old (take k (runs_in tried)) → IsLastOpen conflicts new (take (k + 1) (runs_in tried))
open_step tried conflicts k one lt is clear tells old new kept before =
    subst (λ (o : Option ℕ). IsLastOpen conflicts o (take (k + 1) runs)) (sym kept)
    (subst (IsLastOpen conflicts (if clear then Some k else old)) (sym (take_more runs k (run_of one) many ∙ ap (λ (run : Run). take k runs ++ run ∷ []) here))
    (subst (λ n. IsLastOpen conflicts (if clear then Some n else old) (take k runs ++ run_of one ∷ [])) before_it (open_push conflicts (take k runs) (run_of one) clear tells old before)))
  where
    runs : List Run
    runs = runs_in tried

    many : k < length runs
    many = let e = length-map tried run_of in omega (arith, e, lt)

    before_it : length (take k runs) ≡ k
    before_it = let e = length-take k runs in omega (arith, e, many)

    here : get_or runs k (run_of one) ≡ run_of one
    here = get_or-map run_of tried k one (run_of one) lt ∙ ap run_of (sym is)

-- all runs
pub open_whole : (runs : List Run) (conflicts : List (List Bool)) (last : Option ℕ) → IsLastOpen conflicts last runs → MatchOption last (AreBlamed runs conflicts) (IsOpen runs conflicts)
open_whole runs conflicts None all = λ s failed. All-contains (IsToldOf conflicts) runs (record { set = s; outcome = Failed }) all failed refl
open_whole runs conflicts (Some place) h = h

-- of a search the last run that is open has a set that lies inside each other open one
pub open_least : (r : Rules) (most : Option ℕ) (f : Finding) → IsFinding r most f → (place : ℕ) → IsOpen f.runs f.conflicts place
    → (s : List Bool) → HasFailed f.runs s → HasInside f.conflicts s ⊎ IsWithin (get_or f.runs place (record { set = []; outcome = Broken })).set s
open_least r most f found place left s failed = go f.complete refl
  where
    none : Run
    none = record { set = []; outcome = Broken }

    one : Run
    one = get_or f.runs place none

    one_failed : HasFailed f.runs one.set
    one_failed = subst (λ (o : BuildOutcome). Contains f.runs (record { set = one.set; outcome = o })) left.1.0 (Contains-get_or f.runs place none left.0)

    by : IsUnfinished r f.runs f.conflicts → HasInside f.conflicts s ⊎ IsWithin one.set s
    by u =
        let i = u.failed.0 in
        let run : Run = record { set = u.set; outcome = Failed } in
        let is : get_or f.runs i none ≡ run = get_or_default f.runs i none run u.failed.1 ∙ u.failed.2 in
        let inside : IsWithin u.set one.set = elim (u.blamed one.set one_failed) [ inl told ↦ absurd (left.1.1 told) | inr within ↦ within ] in
        elim (cases_order i place) [
          | inl same ↦
              let this : one.set ≡ u.set = ap (λ (x : Run). x.set) (ap (λ k. get_or f.runs k none) (sym same) ∙ is) in
              elim (u.blamed s failed) [ inl told ↦ inl told | inr within ↦ inr (subst (λ t. IsWithin t s) (sym this) within) ]
          | inr (inl before) ↦
              absurd ((found.course.fresh i place none before left.0).failed (ap (λ (x : Run). x.outcome) is) (subst (λ t. IsWithin t one.set) (sym (ap (λ (x : Run). x.set) is)) inside))
          | inr (inr behind) ↦
              let rest : length (drop (place + 1) f.runs) ≡ length f.runs - (place + 1) = length-drop (place + 1) f.runs in
              let low = u.failed.1 in
              let at : get_or (drop (place + 1) f.runs) (i - (place + 1)) none ≡ run = get_or-drop (place + 1) f.runs (i - (place + 1)) none ∙ ap (λ k. get_or f.runs k none) (omega (arith, behind)) ∙ is in
              absurd (u.clear (subst (IsToldOf f.conflicts) at (left.2 (i - (place + 1)) none (omega (arith, rest, behind, low))) refl))
        ]

    go : (complete : Bool) → f.complete ≡ complete → HasInside f.conflicts s ⊎ IsWithin one.set s
    go true is = absurd (left.1.1 (found.blamed is one.set one_failed))
    go false is = elim (found.unfinished is) [ inl blamed ↦ absurd (left.1.1 (blamed one.set one_failed)) | inr u ↦ by u ]
