-- Lemmas on runs, and on the suspects that a walk over patterns finds.
use Rattle.std.proofs.Common.{◌≡◌, ℕ, ◌+◌, ◌-◌, ◌<◌, ◌≤◌, List, [], ◌∷◌, ◌++◌, length, get_or, take, sym, ◌∙◌, ap, subst, arith, Bool, true, false, ◌⊎◌, inl, inr, AllPairs, Contains, remove, append_assoc, length-append}
use Rattle.std.specs.Prelude.{slice_get, Some, Result, Ok, Err, OnOk}
use Rattle.std.proofs.lemmas.List.{append-nil, length-map, get_or-map, map_more}
use Rattle.std.proofs.lemmas.List.Edits.{length-remove}
use Rattle.std.proofs.lemmas.List.Elements.{All-contains, Contains-get_or, Contains-push, Contains-push_cases, Contains-append_left, Contains-append_right}
use Rattle.std.proofs.lemmas.Option.{same_Some}
use Rattle.hack_suspects.specs.Suspects.{RunOutcome, outcomes_of, IsShown, IsSuspicious, Rises, IsPart, IsSuspect, IsPatternBefore, AreSuspects}
use Rattle.hack_samples.specs.Samples.{RowShows}
use Rattle.hack_suspects.specs.InternalWalks.{IsFailedRow, AreSomeSuspects, FindsFrom, PatternsAreKept}
use Rattle.hack_suspects.specs.declared.suspect.RunOutcome.{RunOutcome as Run}
use Rattle.hack_samples.specs.declared.sets.Setting.{Setting}
use Rattle.hack_samples.proofs.OrderLemmas.{three}
use Rattle.hack_suspects.proofs.PatternLemmas.{part-shows, part-front, part-without, part-shorter}

among : (pattern : List Setting) (x : Setting) (rest : List Setting) → Contains (pattern ++ x ∷ rest) x
among pattern x rest = Contains-append_right pattern (x ∷ rest) x (Contains-append_left (x ∷ []) rest x (Contains-push [] x))

-- the run at a place is one of them
pub run-among : (runs : List Run) (i : ℕ) (run : Run) → i < length runs → run ≡ get_or runs i run → Contains (outcomes_of runs) (record { on = run.on.items; failed = run.failed })
run-among runs i run lt is =
    let plain : Run → RunOutcome = λ r. record { on = r.on.items; failed = r.failed } in
    let below : i < length (outcomes_of runs) = omega (arith, lt, length-map runs plain) in
    subst (Contains (outcomes_of runs)) (get_or-map plain runs i run (plain run) lt ∙ ap plain (sym is)) (Contains-get_or (outcomes_of runs) i (plain run) below)

pub runs-more : (runs : List Run) (i : ℕ) (run : Run) → i < length runs → run ≡ get_or runs i run → outcomes_of (take (i + 1) runs) ≡ outcomes_of (take i runs) ++ record { on = run.on.items; failed = run.failed } ∷ []
runs-more runs i run lt is =
    let plain : Run → RunOutcome = λ r. record { on = r.on.items; failed = r.failed } in
    map_more plain runs i run lt ∙ ap (λ r. outcomes_of (take i runs) ++ plain r ∷ []) (sym is)

pub on_ok_both : {T E P Q R : Type 0} (r : Result T E) → (P → Q → R) → OnOk r P → OnOk r Q → OnOk r R
on_ok_both (Ok x) f p q = f p q
on_ok_both (Err e) f p q = tt

-- what shows a pattern shows each part of it
pub shown-part : (failed : Bool) (outcomes : List RunOutcome) (part pattern : List Setting) → IsPart part pattern → IsShown failed outcomes pattern → IsShown failed outcomes part
shown-part failed outcomes part pattern inside h = record { by = h.by; among = h.among; ended = h.ended; shows = part-shows h.by.on part pattern inside h.shows }

pub shown-by-row : (outcomes : List RunOutcome) (row : List Bool) (pattern : List Setting) → IsFailedRow outcomes row → RowShows row pattern → IsShown true outcomes pattern
shown-by-row outcomes row pattern of shows = record { by = of.by; among = of.among; ended = of.ended; shows = subst (λ r. RowShows r pattern) (sym of.is) shows }

-- a suspicious pattern is a suspect if passed runs show it without each one of its settings
pub suspect-by : (outcomes : List RunOutcome) (n t : ℕ) (pattern : List Setting) → Rises 0 n pattern → length pattern ≤ t → IsSuspicious outcomes pattern
    → ((place : ℕ) → place < length pattern → IsShown false outcomes (remove pattern place)) → IsSuspect outcomes n t pattern
suspect-by outcomes n t pattern rises small suspicious each = record {
  rises = rises;
  small = small;
  suspicious = suspicious;
  minimal = λ part inside shorter h.
      let out = part-shorter part pattern inside shorter in
      h.passed (shown-part false outcomes part (remove pattern out.place) out.inside (each out.place out.below));
}

-- a pattern isn't a suspect if no passed run shows it without some one of its settings
pub suspect-not : (outcomes : List RunOutcome) (n t : ℕ) (pattern : List Setting) (place : ℕ) → place < length pattern → (IsShown false outcomes (remove pattern place) → ⊥) → IsSuspect outcomes n t pattern → ⊥
suspect-not outcomes n t pattern place lt none h =
    let shorter : length (remove pattern place) + 1 ≡ length pattern = length-remove pattern place lt in
    h.minimal (remove pattern place) (part-without pattern place) (omega arith)
    (record { failed = shown-part true outcomes (remove pattern place) pattern (part-without pattern place) h.suspicious.failed; passed = none })

-- one more suspect
pub some-more : (outcomes : List RunOutcome) (n t : ℕ) (found more : List (List Setting)) (pattern : List Setting) → AreSomeSuspects outcomes n t found → IsSuspect outcomes n t pattern → AllPairs IsPatternBefore more
    → ((p : List Setting) → Contains more p → Contains found p ⊎ (p ≡ pattern)) → AreSomeSuspects outcomes n t more
some-more outcomes n t found more pattern old suspect ordered only = record {
  ordered = ordered;
  sound = λ k d lt. elim (only (get_or more k d) (Contains-get_or more k d lt)) [
    | inl w ↦ All-contains (IsSuspect outcomes n t) found (get_or more k d) old.sound w
    | inr e ↦ subst (IsSuspect outcomes n t) (sym e) suspect
  ];
}

module _ (outcomes : List RunOutcome) (n t : ℕ) (row : List Bool) where
  pub finds-kept : (pattern : List Setting) (first more : ℕ) (found later : List (List Setting)) → PatternsAreKept found later → FindsFrom outcomes n t row pattern first more found → FindsFrom outcomes n t row pattern first more later
  finds-kept pattern first more found later kept finds = λ rest rises few shows suspect. kept (pattern ++ rest) (finds rest rises few shows suspect)

  -- no longer suspect continues a pattern that a failed run shows and no passed run
  pub finds-here : (pattern : List Setting) (first more : ℕ) (found : List (List Setting)) → IsFailedRow outcomes row → RowShows row pattern → (IsShown false outcomes pattern → ⊥)
      → (IsSuspect outcomes n t pattern → Contains found pattern) → FindsFrom outcomes n t row pattern first more found
  finds-here pattern first more found of shows none added [] rises few shows' suspect =
      subst (Contains found) (sym (append-nil pattern)) (added (subst (IsSuspect outcomes n t) (append-nil pattern) suspect))
  finds-here pattern first more found of shows none added (x ∷ rest) rises few shows' suspect =
      let long : length (pattern ++ x ∷ rest) ≡ length pattern + length (x ∷ rest) = length-append pattern (x ∷ rest) in
      absurd (suspect.minimal pattern (part-front pattern (x ∷ rest)) (omega arith) (record { failed = shown-by-row outcomes row pattern of shows; passed = none }))

  -- a pattern that a passed run shows isn't a suspect
  finds-not : (pattern : List Setting) → IsShown false outcomes pattern → IsSuspect outcomes n t (pattern ++ []) → ⊥
  finds-not pattern passed suspect = suspect.suspicious.passed (subst (IsShown false outcomes) (sym (append-nil pattern)) passed)

  -- each suspect that continues the pattern continues it with one more setting
  pub finds-all : (pattern : List Setting) (first limit more : ℕ) (found : List (List Setting)) → IsShown false outcomes pattern
      → ((x : Setting) → first ≤ x.candidate → x.candidate < limit → slice_get row x.candidate ≡ Some x.on → FindsFrom outcomes n t row (pattern ++ x ∷ []) (x.candidate + 1) (more - 1) found)
      → ((x : Setting) → x.candidate < n → slice_get row x.candidate ≡ Some x.on → x.candidate < limit) → FindsFrom outcomes n t row pattern first more found
  finds-all pattern first limit more found passed each within [] rises few shows suspect = absurd (finds-not pattern passed suspect)
  finds-all pattern first limit more found passed each within (x ∷ rest) rises few shows suspect =
      let e : (pattern ++ x ∷ []) ++ rest ≡ pattern ++ x ∷ rest = append_assoc pattern (x ∷ []) rest in
      let on : slice_get row x.candidate ≡ Some x.on = All-contains (λ setting. slice_get row setting.candidate ≡ Some setting.on) (pattern ++ x ∷ rest) x shows (among pattern x rest) in
      subst (Contains found) e
      (each x rises.0 (within x rises.1 on) on rest rises.2 (omega arith) (subst (RowShows row) (sym e) shows) (subst (IsSuspect outcomes n t) (sym e) suspect))

  -- suspects that continue the pattern by one more candidate
  pub finds-step : (pattern : List Setting) (first candidate more : ℕ) (on : Bool) (found : List (List Setting)) → slice_get row candidate ≡ Some on
      → ((x : Setting) → first ≤ x.candidate → x.candidate < candidate → slice_get row x.candidate ≡ Some x.on → FindsFrom outcomes n t row (pattern ++ x ∷ []) (x.candidate + 1) more found)
      → FindsFrom outcomes n t row (pattern ++ record { candidate = candidate; on = on } ∷ []) (candidate + 1) more found
      → (x : Setting) → first ≤ x.candidate → x.candidate < candidate + 1 → slice_get row x.candidate ≡ Some x.on → FindsFrom outcomes n t row (pattern ++ x ∷ []) (x.candidate + 1) more found
  finds-step pattern first candidate more on found here before now x le lt shown =
      let at : ℕ → Bool → Type 0 = λ f b. FindsFrom outcomes n t row (pattern ++ record { candidate = f; on = b } ∷ []) (f + 1) more found in
      elim (three x.candidate candidate) [
        | inl less ↦ before x le less shown
        | inr w ↦ elim w [
          | inl same ↦
              let same-on : on ≡ x.on = same_Some on x.on (sym here ∙ sym (ap (slice_get row) same) ∙ shown) in
              subst (λ b. at x.candidate b) same-on (subst (λ f. at f on) (sym same) now)
          | inr more' ↦ absurd (omega arith)
        ]
      ]

-- if the suspects that each failed run shows were found, these are all suspects
pub suspects-all : (outcomes : List RunOutcome) (n t : ℕ) (found : List (List Setting)) → AreSomeSuspects outcomes n t found
    → ((o : RunOutcome) → Contains outcomes o → o.failed ≡ true → (p : List Setting) → RowShows o.on p → IsSuspect outcomes n t p → Contains found p) → AreSuspects outcomes n t found
suspects-all outcomes n t found some all = record {
  ordered = some.ordered;
  exactly = λ p. (
    λ h. All-contains (IsSuspect outcomes n t) found p some.sound h,
    λ suspect. let by = suspect.suspicious.failed in all by.by by.among by.ended p by.shows suspect,
  );
}

-- what was found for one more run
pub suspects-more : (outcomes front now : List RunOutcome) (o : RunOutcome) (n t : ℕ) (found more : List (List Setting)) → now ≡ front ++ o ∷ [] → PatternsAreKept found more
    → (o.failed ≡ true → FindsFrom outcomes n t o.on [] 0 t more)
    → ((u : RunOutcome) → Contains front u → u.failed ≡ true → (p : List Setting) → RowShows u.on p → IsSuspect outcomes n t p → Contains found p)
    → (u : RunOutcome) → Contains now u → u.failed ≡ true → (p : List Setting) → RowShows u.on p → IsSuspect outcomes n t p → Contains more p
suspects-more outcomes front now o n t found more is kept finds before u among failed p shows suspect =
    elim (Contains-push_cases front o u (subst (λ l. Contains l u) is among)) [
      | inl w ↦ kept p (before u w failed p shows suspect)
      | inr e ↦ finds (ap (λ (r : RunOutcome). r.failed) e ∙ failed) p suspect.rises suspect.small (subst (λ (r : RunOutcome). RowShows r.on p) (sym e) shows) suspect
    ]
