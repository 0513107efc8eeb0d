use Rattle.std.proofs.Common.{◌≡◌, ◌∙◌, ◌<◌, ◌≤◌, ◌-◌, ◌+◌, ◌++◌, ◌∷◌, [], sym, ap, subst, ℕ, List, Bool, length, arith, rules, false, refl, remove}
use Rattle.std.specs.Prelude.{slice_get, Some}
use Rattle.std.proofs.lemmas.List.{append-nil, length_push}
use Rattle.std.proofs.lemmas.Bool.{ltb-false}
use Rattle.std.proofs.lemmas.Option.{slice_get_within, slice_get_read}
use Rattle.std.proofs.lemmas.Result.{on_ok_weaker}
use Rattle.std.proofs.lemmas.List.Elements.{All-push}
use Rattle.hack_samples.specs.Sets.{rows_of}
use Rattle.hack_suspects.specs.Suspects.{RunOutcome, IsShown, IsSuspect, Rises, outcomes_of}
use Rattle.hack_samples.specs.Samples.{RowShows}
use Rattle.hack_suspects.specs.InternalWalks.{FindsFrom, PatternsAreKept}
use Rattle.hack_samples.specs.declared.sets.Setting.{Setting}
use Rattle.hack_suspects.proofs.PatternLemmas.{rises-more, rises-wider}
use Rattle.hack_suspects.proofs.SuspectLemmas.{finds-here, finds-all, finds-step, finds-kept, suspect-not, suspect-by, shown-by-row, some-more, on_ok_both}
use Rattle.hack_suspects.proofs.suspect.+walk.Goals as goal

pub returns-then-not-is_minimal-clause-all : goal.returns-then-not-is_minimal-clause-all
returns-then-not-is_minimal-clause-all t c =
    let outcomes : List RunOutcome = outcomes_of c.args.search.now.outcomes.now in
    let none = subst (λ (p : List Setting). IsShown false outcomes p → ⊥) (ap (λ (p : List Setting). p ++ []) c.as_slice.ensures.value ∙ append-nil c.args.pattern.items) c.if-not-passed_shows.ensures in
    let without = subst (λ (p : List Setting). (place : ℕ) × (place < length p) × (IsShown false outcomes (remove p place) → ⊥)) c.as_slice-then-not-passed_shows.ensures.value c.if-not-is_minimal.ensures in
    finds-here outcomes c.args.search.now.candidates c.args.search.now.strength c.args.search.now.row.now c.args.pattern.items c.args.first c.args.more (rows_of c.args.found.now.items) c.requires.row c.requires.shown none
    (λ suspect. absurd (suspect-not outcomes c.args.search.now.candidates c.args.search.now.strength c.args.pattern.items without.0 without.1 without.2 suspect))

pub returns-then-not-passed_shows-clause-sound : goal.returns-then-not-passed_shows-clause-sound
returns-then-not-passed_shows-clause-sound t c =
    let outcomes : List RunOutcome = outcomes_of c.args.search.now.outcomes.now in
    let n : ℕ = c.args.search.now.candidates in
    let most : ℕ = c.args.search.now.strength in
    let none = subst (λ (p : List Setting). IsShown false outcomes p → ⊥) (ap (λ (p : List Setting). p ++ []) c.as_slice.ensures.value ∙ append-nil c.args.pattern.items) c.if-not-passed_shows.ensures in
    let each = subst (λ (p : List Setting). (place : ℕ) → place < length p → IsShown false outcomes (remove p place)) c.as_slice-then-not-passed_shows.ensures.value c.if-not-is_minimal.ensures in
    let suspect : IsSuspect outcomes n most c.args.pattern.items =
    suspect-by outcomes n most c.args.pattern.items (rises-wider 0 c.args.first n c.args.pattern.items c.requires.rises c.requires.first) (omega (arith, c.requires.small))
    (record { failed = shown-by-row outcomes c.args.search.now.row.now c.args.pattern.items c.requires.row c.requires.shown; passed = none }) each in
    on_ok_both c.put.result (λ ordered only. some-more outcomes n most (rows_of c.args.found.now.items) (rows_of c.put.new.found.items) c.args.pattern.items c.requires.sound suspect ordered only)
    c.put.ensures.ordered c.put.ensures.only

pub returns-then-not-passed_shows-clause-all : goal.returns-then-not-passed_shows-clause-all
returns-then-not-passed_shows-clause-all t c =
    let outcomes : List RunOutcome = outcomes_of c.args.search.now.outcomes.now in
    let none = subst (λ (p : List Setting). IsShown false outcomes p → ⊥) (ap (λ (p : List Setting). p ++ []) c.as_slice.ensures.value ∙ append-nil c.args.pattern.items) c.if-not-passed_shows.ensures in
    on_ok_weaker c.put.result
    (λ added. finds-here outcomes c.args.search.now.candidates c.args.search.now.strength c.args.search.now.row.now c.args.pattern.items c.args.first c.args.more (rows_of c.put.new.found.items) c.requires.row c.requires.shown none (λ suspect. added))
    c.put.ensures.added

pub returns-in_default-clause-all : goal.returns-in_default-clause-all
returns-in_default-clause-all t c =
    let row : List Bool = c.args.search.now.row.now in
    let past : length row ≤ c.loop-candidate.candidate = ltb-false c.loop-candidate.candidate (length row) (sym c.in_default.ensures.lookup.0) in
    finds-all (outcomes_of c.args.search.now.outcomes.now) c.args.search.now.candidates c.args.search.now.strength row c.args.pattern.items c.args.first c.loop-candidate.candidate c.args.more
    (rows_of c.loop-candidate.found.items) c.loop-candidate.invariant.passed c.loop-candidate.invariant.all
    (λ x below shown. let lt : x.candidate < length row = slice_get_within row x.candidate x.on shown in omega arith)

pub walk-requires : goal.walk-requires
walk-requires t c =
    let row : List Bool = c.args.search.now.row.now in
    let f : ℕ = c.loop-candidate.candidate in
    let x : Setting = record { candidate = f; on = c.in-Some.on.now } in
    let e : c.in_ok-next.next.items ≡ c.args.pattern.items ++ x ∷ [] = c.in_ok-next.ensures ∙ ap (λ p. p ++ x ∷ []) c.as_slice-in-loop-candidate.ensures.value in
    let size : length c.in_ok-next.next.items ≡ length c.args.pattern.items + 1 = ap length e ∙ length_push c.args.pattern.items x in
    let here : slice_get row f ≡ Some x.on = slice_get_read row (length row) f x.on refl c.in-Some.ensures.lookup.3.0 c.in-Some.ensures.lookup.1 in (
      search rules,
      (
        subst (Rises 0 (f + 1)) (sym e) (rises-more 0 c.args.first c.args.pattern.items x c.requires.rises (omega arith) (omega (arith, c.loop-candidate.auto.candidate))),
        (
          omega (arith, c.loop-candidate-test.true),
          (
            omega (arith, size, c.requires.small, c.if-more-eq0.false),
            (
              c.requires.row,
              (
                subst (RowShows row) (sym e) (All-push (λ setting. slice_get row setting.candidate ≡ Some setting.on) c.args.pattern.items x c.requires.shown here),
                c.loop-candidate.invariant.sound,
              ),
            ),
          ),
        ),
      ),
    )

pub loop-candidate-preserved : goal.loop-candidate-preserved
loop-candidate-preserved t c =
    let outcomes : List RunOutcome = outcomes_of c.args.search.now.outcomes.now in
    let n : ℕ = c.args.search.now.candidates in
    let t' : ℕ = c.args.search.now.strength in
    let row : List Bool = c.args.search.now.row.now in
    let pattern : List Setting = c.args.pattern.items in
    let f : ℕ = c.loop-candidate.candidate in
    let on : Bool = c.in-Some.on.now in
    let x : Setting = record { candidate = f; on = on } in
    let e : c.in_ok-next.next.items ≡ pattern ++ x ∷ [] = c.in_ok-next.ensures ∙ ap (λ p. p ++ x ∷ []) c.as_slice-in-loop-candidate.ensures.value in
    let before = rows_of c.loop-candidate.found.items in
    let now = rows_of c.walk.new.found.items in
    let here : slice_get row f ≡ Some on = slice_get_read row (length row) f on refl c.in-Some.ensures.lookup.3.0 c.in-Some.ensures.lookup.1 in
    let kept : PatternsAreKept before now = c.in_ok-walk.ensures.kept in
    record {
      sound = c.in_ok-walk.ensures.sound;
      kept = λ p h. kept p (c.loop-candidate.invariant.kept p h);
      passed = c.loop-candidate.invariant.passed;
      all = finds-step outcomes n t' row pattern c.args.first f (c.args.more - 1) on now here
          (λ y le lt shown. finds-kept outcomes n t' row (pattern ++ y ∷ []) (y.candidate + 1) (c.args.more - 1) before now kept (c.loop-candidate.invariant.all y le lt shown))
          (subst (λ p. FindsFrom outcomes n t' row p (f + 1) (c.args.more - 1) now) e c.in_ok-walk.ensures.all);
    }

pub returns-clause-all : goal.returns-clause-all
returns-clause-all t c =
    finds-all (outcomes_of c.args.search.now.outcomes.now) c.args.search.now.candidates c.args.search.now.strength c.args.search.now.row.now c.args.pattern.items c.args.first c.loop-candidate.candidate c.args.more
    (rows_of c.loop-candidate.found.items) c.loop-candidate.invariant.passed c.loop-candidate.invariant.all
    (λ x below shown. omega (arith, below, c.loop-candidate-test.false))
