-- Lemmas on faults: a suspicious pattern has a suspect as a part.
use Rattle.std.proofs.Common.{◌≡◌, ℕ, zero, suc, ◌+◌, ◌<◌, ◌≤◌, List, [], ◌∷◌, length, refl, sym, ◌∙◌, ap, subst, arith, Bool, true, false, ◌⊎◌, inl, inr, Contains, remove}
use Rattle.std.specs.Prelude.{slice_get, Option, Some, None}
use Rattle.std.proofs.lemmas.List.Edits.{length-remove}
use Rattle.std.proofs.lemmas.List.Elements.{All-nil, All-cons, All-head, All-tail, Contains-push, Contains-push_cases, Contains-append_cases, Contains-append_left, Contains-append_right}
use Rattle.hack_suspects.specs.Suspects.{RunOutcome, AreSuspects, IsShown, IsSuspicious, Rises, IsPart}
use Rattle.hack_samples.specs.Samples.{RowShows}
use Rattle.hack_suspects.specs.Counts.{TellTheFailed}
use Rattle.hack_suspects.specs.Faults.{FailBy, FaultsAreFound, HasSuspect}
use Rattle.hack_samples.specs.declared.sets.Setting.{Setting}
use Rattle.hack_samples.proofs.SetLemmas.{told, not_both}
use Rattle.hack_samples.proofs.OrderLemmas.{three}
use Rattle.hack_suspects.proofs.PatternLemmas.{part-self, part-shows, part-then, part-without, part-rises}
use Rattle.hack_suspects.proofs.SuspectLemmas.{shown-part, suspect-by}

is-or-not : (o : Option Bool) (b : Bool) → (o ≡ Some b) ⊎ (o ≡ Some b → ⊥)
is-or-not None b = inr (λ e. cc)
is-or-not (Some true) true = inl refl
is-or-not (Some true) false = inr (λ e. cc)
is-or-not (Some false) true = inr (λ e. cc)
is-or-not (Some false) false = inl refl

-- a row shows a pattern or not
row-or-not : (row : List Bool) (pattern : List Setting) → RowShows row pattern ⊎ (RowShows row pattern → ⊥)
row-or-not row [] = inl (All-nil (λ setting. slice_get row setting.candidate ≡ Some setting.on))
row-or-not row (x ∷ pattern) =
    let S : Setting → Type 0 = λ setting. slice_get row setting.candidate ≡ Some setting.on in
    elim (is-or-not (slice_get row x.candidate) x.on) [
      | inr not ↦ inr (λ h. not (All-head S x pattern h))
      | inl here ↦ elim (row-or-not row pattern) [
        | inl shows ↦ inl (All-cons S x pattern here shows)
        | inr not ↦ inr (λ h. not (All-tail S x pattern h))
      ]
    ]

-- the first run, or one of the others
first-or-later : (o : RunOutcome) (outcomes : List RunOutcome) (u : RunOutcome) → Contains (o ∷ outcomes) u → (o ≡ u) ⊎ Contains outcomes u
first-or-later o outcomes u h =
    elim (Contains-append_cases (o ∷ []) outcomes u h) [
      | inr w ↦ inr w
      | inl w ↦ elim (Contains-push_cases [] o u w) [ inl none ↦ absurd (omega (arith, none.1)) | inr e ↦ inl e ]
    ]

-- if the first run doesn't show the pattern, a passed one of the others does or none does
later-or-not : (o : RunOutcome) (outcomes : List RunOutcome) (pattern : List Setting) → ((o.failed ≡ false) → RowShows o.on pattern → ⊥) → IsShown false outcomes pattern ⊎ (IsShown false outcomes pattern → ⊥)
    → IsShown false (o ∷ outcomes) pattern ⊎ (IsShown false (o ∷ outcomes) pattern → ⊥)
later-or-not o outcomes pattern not later =
    elim later [
      | inl h ↦ inl (record { by = h.by; among = Contains-append_right (o ∷ []) outcomes h.by h.among; ended = h.ended; shows = h.shows })
      | inr none ↦ inr (λ h. elim (first-or-later o outcomes h.by h.among) [
        | inl e ↦ not (ap (λ (r : RunOutcome). r.failed) e ∙ h.ended) (subst (λ (r : RunOutcome). RowShows r.on pattern) (sym e) h.shows)
        | inr w ↦ none (record { by = h.by; among = w; ended = h.ended; shows = h.shows })
      ])
    ]

-- a passed run shows a pattern or none does
passed-or-not : (outcomes : List RunOutcome) (pattern : List Setting) → IsShown false outcomes pattern ⊎ (IsShown false outcomes pattern → ⊥)
passed-or-not [] pattern = inr (λ h. omega (arith, h.among.1))
passed-or-not (o ∷ outcomes) pattern =
    elim (told o.failed) [
      | inl failed ↦ later-or-not o outcomes pattern (λ passed shows. not_both failed passed) (passed-or-not outcomes pattern)
      | inr passed ↦ elim (row-or-not o.on pattern) [
        | inr not ↦ later-or-not o outcomes pattern (λ passed' shows. not shows) (passed-or-not outcomes pattern)
        | inl shows ↦ inl (record { by = o; among = Contains-append_left (o ∷ []) outcomes o (Contains-push [] o); ended = passed; shows = shows })
      ]
    ]

-- for each of the first n settings a passed run shows the pattern without it, or for one none does
abbrev Tried : List RunOutcome → List Setting → ℕ → Type 0
Tried outcomes pattern n =
    ((place : ℕ) → place < n → IsShown false outcomes (remove pattern place)) ⊎ ((place : ℕ) × (place < n) × (IsShown false outcomes (remove pattern place) → ⊥))

tried : (outcomes : List RunOutcome) (pattern : List Setting) (n : ℕ) → Tried outcomes pattern n
tried outcomes pattern zero = inl (λ place lt. absurd (omega arith))
tried outcomes pattern (suc n) =
    elim (tried outcomes pattern n) [
      | inr w ↦ inr (w.0, omega (arith, w.1), w.2)
      | inl each ↦ elim (passed-or-not outcomes (remove pattern n)) [
        | inr none ↦ inr (n, omega arith, none)
        | inl here ↦ inl (λ place lt. elim (three place n) [
          | inl less ↦ each place less
          | inr v ↦ elim v [
            | inl e ↦ subst (λ k. IsShown false outcomes (remove pattern k)) (sym e) here
            | inr more ↦ absurd (omega arith)
          ]
        ])
      ]
    ]

-- a suspicious pattern is a suspect or has one as a part
has-suspect : (size : ℕ) (outcomes : List RunOutcome) (n t : ℕ) (pattern : List Setting) → length pattern ≤ size → Rises 0 n pattern → length pattern ≤ t → IsSuspicious outcomes pattern → HasSuspect outcomes n t pattern
has-suspect zero outcomes n t pattern le rises small suspicious = record {
  part = pattern;
  inside = part-self pattern;
  suspect = suspect-by outcomes n t pattern rises small suspicious (λ place lt. absurd (omega arith));
}
has-suspect (suc size) outcomes n t pattern le rises small suspicious =
    elim (tried outcomes pattern (length pattern)) [
      | inl each ↦ record { part = pattern; inside = part-self pattern; suspect = suspect-by outcomes n t pattern rises small suspicious each }
      | inr w ↦
          let shorter : length (remove pattern w.0) + 1 ≡ length pattern = length-remove pattern w.0 w.1 in
          let inside : IsPart (remove pattern w.0) pattern = part-without pattern w.0 in
          let less = has-suspect size outcomes n t (remove pattern w.0) (omega arith) (part-rises 0 n (remove pattern w.0) pattern inside rises) (omega arith)
          (record { failed = shown-part true outcomes (remove pattern w.0) pattern inside suspicious.failed; passed = w.2 }) in
          record { part = less.part; inside = part-then less.part (remove pattern w.0) pattern less.inside inside; suspect = less.suspect }
    ]

pub faults-found : (outcomes : List RunOutcome) (n t : ℕ) (faults : List (List Setting)) → FailBy faults outcomes → FaultsAreFound outcomes n t faults
faults-found outcomes n t faults by = λ fault among rises small run chosen shows.
    has-suspect (length fault) outcomes n t fault (omega arith) rises small (record {
      failed = record { by = run; among = chosen; ended = (by run chosen).1 (record { fault = fault; among = among; shows = shows }); shows = shows };
      passed = λ h. not_both ((by h.by h.among).1 (record { fault = fault; among = among; shows = h.shows })) h.ended;
    })

-- a failed run shows a suspect just where it shows a small pattern that no passed run shows
pub failed-told : (outcomes : List RunOutcome) (n t : ℕ) (found : List (List Setting)) → AreSuspects outcomes n t found → TellTheFailed outcomes n t found
failed-told outcomes n t found are = λ run among failed. (
  λ one. let suspect = (are.exactly one.fault).0 one.among in record { pattern = one.fault; rises = suspect.rises; small = suspect.small; shows = one.shows; passed = suspect.suspicious.passed },
  λ own.
      let there = has-suspect (length own.pattern) outcomes n t own.pattern (omega arith) own.rises own.small
      (record { failed = record { by = run; among = among; ended = failed; shows = own.shows }; passed = own.passed }) in
      record { fault = there.part; among = (are.exactly there.part).1 there.suspect; shows = part-shows run.on there.part own.pattern there.inside own.shows },
)
