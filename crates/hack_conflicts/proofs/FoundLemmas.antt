-- What is found by what is known at the end.
use Rattle.std.proofs.Common.{◌≡◌, ◌≤◌, ℕ, ◌+◌, ◌*◌, List, ◌++◌, length, get_or, inl, inr, arith, Bool, false, sym, subst, ap, ◌∙◌, ◌↔◌, ◌⊎◌, All, IsTrue, Option}
use Rattle.std.specs.Prelude.{AllPairs, Vec}
use Rattle.std.proofs.lemmas.List.{length-append, length-map, get_or_default}
use Rattle.std.proofs.lemmas.Bool.{cases_order}
use Rattle.hack_conflicts.proofs.ShrinkLemmas.{passed-not-failed}
use Rattle.hack_conflicts.specs.Sets.{IsWithin, HasInside, IsInside, AreApart, rows_of}
use Rattle.hack_conflicts.specs.Rules.{IsChoice, IsPlain, size_of}
use Rattle.hack_conflicts.specs.Runs.{Run, Finding, HasFailed, HasPassed, IsFinding, IsCourse, IsLeast, IsSpent, AreBlamed, AreWhole, IsUnfinished, IsNew, AreMonotone, IsDecided, IsIncomplete, Answers, IsMonotone, IsGreatest}
use Rattle.hack_conflicts.specs.Internal.{IsSound, IsSettled, IsUnsettled, IsCutOff, IsGoing, IsSteady, AreOthers, worth, told, conflicts_of, passing_of}
use Rattle.hack_conflicts.specs.declared.rules.Rules.{Rules}
use Rattle.hack_conflicts.specs.declared.known.Known.{Known}
use Rattle.hack_conflicts.specs.declared.tried.BuildOutcome.TheVariants.{Passed, Failed}
use Rattle.hack_conflicts.proofs.KnownLemmas.{each_of, length-runs}
use Rattle.hack_conflicts.proofs.GreatestLemmas.{all_passed, all_covered, all_apart, none_greater}
use Rattle.hack_conflicts.proofs.EndLemmas.{decided_by, undecided_by, law}
use Rattle.hack_conflicts.proofs.SearchLemmas.{one_more}

-- what is found is what is known
pub record IsFoundBy (k : Known) (runs : List Run) (conflicts passing : List (List Bool)) : Type 0 where
  pub others : List (List Bool)
  pub same_runs : runs ≡ told k
  pub same_conflicts : conflicts ≡ conflicts_of k
  pub both : passing ≡ passing_of k ++ others
  pub rest : AreOthers (passing_of k) (told k) others

module _ (r : Rules) (most : Option ℕ) (k : Known) (runs : List Run) (conflicts passing : List (List Bool)) (sound : IsSound r most k) (found : IsFoundBy k runs conflicts passing) where
  pub found_failed : All (HasFailed runs) conflicts
  found_failed = subst (λ l. All (HasFailed l) conflicts) (sym found.same_runs) (subst (All (HasFailed (told k))) (sym found.same_conflicts) sound.failed)

  pub found_least : All (IsLeast r runs) conflicts
  found_least = subst (λ l. All (IsLeast r l) conflicts) (sym found.same_runs) (subst (All (IsLeast r (told k))) (sym found.same_conflicts) sound.least)

  pub found_conflicts_apart : AllPairs AreApart conflicts
  found_conflicts_apart = subst (AllPairs AreApart) (sym found.same_conflicts) sound.conflicts_apart

  passed_k : All (HasPassed (told k)) passing
  passed_k = subst (All (HasPassed (told k))) (sym found.both) (all_passed (passing_of k) (told k) found.others found.rest sound.passed)

  pub found_passed : All (HasPassed runs) passing
  found_passed = subst (λ l. All (HasPassed l) passing) (sym found.same_runs) passed_k

  covers_k : (s : List Bool) → HasPassed (told k) s → IsInside passing s
  covers_k s passed = subst (λ l. IsInside l s) (sym found.both) (all_covered (passing_of k) (told k) found.others found.rest s passed)

  pub found_covers : (s : List Bool) → HasPassed runs s → IsInside passing s
  found_covers s passed = covers_k s (subst (λ l. HasPassed l s) found.same_runs passed)

  pub found_passing_apart : AllPairs AreApart passing
  found_passing_apart = subst (AllPairs AreApart) (sym found.both) (all_apart (passing_of k) (told k) found.others found.rest sound.passing_apart sound.widest)

  pub found_blamed : AreBlamed (told k) (conflicts_of k) → AreBlamed runs conflicts
  found_blamed blamed s failed = subst (λ l. HasInside l s) (sym found.same_conflicts) (blamed s (subst (λ l. HasFailed l s) found.same_runs failed))

  pub found_unfinished : AreBlamed (told k) (conflicts_of k) ⊎ IsUnfinished r (told k) (conflicts_of k) → AreBlamed runs conflicts ⊎ IsUnfinished r runs conflicts
  found_unfinished blamed =
      subst (λ l. AreBlamed l conflicts ⊎ IsUnfinished r l conflicts) (sym found.same_runs) (subst (λ l. AreBlamed (told k) l ⊎ IsUnfinished r (told k) l) (sym found.same_conflicts) blamed)

  pub found_complete : ((s : List Bool) → IsChoice r s → IsSettled k s) → (s : List Bool) → IsChoice r s → IsDecided conflicts passing s
  found_complete settled s choice = subst (λ l. IsDecided l passing s) (sym found.same_conflicts) (decided_by k passing covers_k s (settled s choice))

  pub found_incomplete : IsUnsettled r k → IsIncomplete r conflicts passing
  found_incomplete (s, choice, open') = (s, choice, subst (λ l. ¬ IsDecided l passing s) (sym found.same_conflicts) (undecided_by k passing passed_k s open'))

  pub found_law : (builds : List Bool → Bool) → IsMonotone r builds → Answers builds runs → ((s : List Bool) → IsChoice r s → IsSettled k s)
      → (s : List Bool) → IsChoice r s → (builds s ≡ false) ↔ HasInside conflicts s
  found_law builds monotone answers settled s choice =
      law r builds monotone runs answers (subst (All (λ (run : Run). IsChoice r run.set)) (sym found.same_runs) sound.course.chosen) conflicts passing found_failed found_passed s choice (found_complete settled s choice)

  pub found_greatest : (builds : List Bool → Bool) → IsMonotone r builds → Answers builds runs → ((s : List Bool) → IsChoice r s → IsSettled k s) → All (IsGreatest r builds) passing
  found_greatest builds monotone answers settled =
      each_of (IsGreatest r builds) passing
      (none_greater r builds conflicts passing found_passing_apart (found_complete settled) (λ s choice inside. (found_law builds monotone answers settled s choice).1 inside))

-- where no run is a foregone conclusion, no set that passed has one inside that failed
pub monotone_runs : (runs : List Run) → AllPairs IsNew runs → AreMonotone runs
monotone_runs runs fresh s t (i, li, si) (j, lj, tj) w =
    let d : Run = record { set = s; outcome = Failed } in
    let ti : get_or runs j d ≡ record { set = t; outcome = Passed } = get_or_default runs j d (record { set = t; outcome = Passed }) lj ∙ tj in
    elim (cases_order i j) [
      | inl e ↦ absurd (passed-not-failed (ap (λ (run : Run). run.outcome) (sym ti ∙ ap (λ k. get_or runs k d) (sym e) ∙ si)))
      | inr (inl lt) ↦ (fresh i j d lt lj).failed (ap (λ (run : Run). run.outcome) si) (subst (λ u. IsWithin u (get_or runs j d).set) (ap (λ (run : Run). run.set) (sym si)) (subst (IsWithin s) (ap (λ (run : Run). run.set) (sym ti)) w))
      | inr (inr lt) ↦ (fresh j i d lt li).passed (ap (λ (run : Run). run.outcome) ti) (subst (λ u. IsWithin u (get_or runs j d).set) (ap (λ (run : Run). run.set) (sym si)) (subst (IsWithin s) (ap (λ (run : Run). run.set) (sym ti)) w))
    ]

-- as many runs as what is found accounts for: a front of the passing sets is known
fewer : (n : ℕ) (k : Known) (runs passing others : ℕ) → runs ≤ worth n k → passing ≡ length k.passing.items + others → runs ≤ passing + length k.conflicts.items * (2 * n + 1)
fewer n k runs passing others paid long = omega arith

fewer_so_far : (n : ℕ) (k : Known) (runs passing others : ℕ) → runs ≤ worth n k + (2 * n + 1) → passing ≡ length k.passing.items + others → runs ≤ passing + (length k.conflicts.items + 1) * (2 * n + 1)
fewer_so_far n k runs passing others paid long = rw (one_more (length k.conflicts.items) (2 * n)) (omega arith)

length-rows : {X Z : Type 0} (rows : List (Vec X Z)) → length (rows_of rows) ≡ length rows
length-rows rows = length-map rows (λ row. row.items)

-- what a search found, by what is known at its end
pub is_finding : (r : Rules) (most : Option ℕ) (k : Known) (f : Finding) (complete : Bool) → IsSound r most k → IsFoundBy k f.runs f.conflicts f.passing → f.complete ≡ complete
    → (IsPlain r → length k.runs.items ≤ worth (size_of r) k + (2 * size_of r + 1)) → IsGoing k → (complete ≡ false → IsCutOff r most k) → (IsTrue complete → IsSteady r 0 k)
    → (IsTrue complete → (s : List Bool) → IsChoice r s → IsSettled k s) → IsFinding r most f
is_finding r most k f complete sound found same owes going cut_off steady settled =
    let n = size_of r in
    let is_true : IsTrue f.complete → IsTrue complete = λ t. subst IsTrue same t in
    let is_false : f.complete ≡ false → complete ≡ false = λ e. sym same ∙ e in
    let runs : length f.runs ≡ length k.runs.items = ap length found.same_runs ∙ length-runs k.runs.items in
    let conflicts : length f.conflicts ≡ length k.conflicts.items = ap length found.same_conflicts ∙ length-rows k.conflicts.items in
    let passing : length f.passing ≡ length k.passing.items + length found.others =
    ap length found.both ∙ length-append (passing_of k) found.others ∙ ap (λ m. m + length found.others) (length-rows k.passing.items) in
    record {
      course = subst (λ l. IsCourse r most l) (sym found.same_runs) sound.course;
      whole = subst AreWhole (sym found.same_runs) going;
      monotone = subst AreMonotone (sym found.same_runs) (monotone_runs (told k) sound.course.fresh);
      failed = found_failed r most k f.runs f.conflicts f.passing sound found;
      least = found_least r most k f.runs f.conflicts f.passing sound found;
      conflicts_apart = found_conflicts_apart r most k f.runs f.conflicts f.passing sound found;
      passed = found_passed r most k f.runs f.conflicts f.passing sound found;
      covers = found_covers r most k f.runs f.conflicts f.passing sound found;
      passing_apart = found_passing_apart r most k f.runs f.conflicts f.passing sound found;
      decided = λ t. found_complete r most k f.runs f.conflicts f.passing sound found (settled (is_true t));
      blamed = λ t. found_blamed r most k f.runs f.conflicts f.passing sound found (steady (is_true t)).blamed;
      unfinished = λ e. found_unfinished r most k f.runs f.conflicts f.passing sound found (cut_off (is_false e)).blamed;
      incomplete = λ e. found_incomplete r most k f.runs f.conflicts f.passing sound found (cut_off (is_false e)).unsettled;
      spent = λ e. subst (IsSpent most) (sym runs) (cut_off (is_false e)).spent;
      few = λ t plain.
          rw (runs, conflicts) (fewer n k (length k.runs.items) (length f.passing) (length found.others) ((steady (is_true t)).paid plain) passing);
      few_so_far = λ plain. rw (runs, conflicts) (fewer_so_far n k (length k.runs.items) (length f.passing) (length found.others) (owes plain) passing);
      law = λ builds monotone answers t. found_law r most k f.runs f.conflicts f.passing sound found builds monotone answers (settled (is_true t));
      greatest = λ builds monotone answers t. found_greatest r most k f.runs f.conflicts f.passing sound found builds monotone answers (settled (is_true t));
    }
