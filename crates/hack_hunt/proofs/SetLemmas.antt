-- Sets that a search tried, and what was built for them.
use Rattle.std.specs.Prelude.{◌≡◌, ℕ, ◌<◌, ◌+◌, List, [], ◌∷◌, ◌++◌, All, Bool, Contains, length, take, suc}
use Rattle.std.specs.List.{AllZip}
use Rattle.std.proofs.Common.{ap, get_or, refl, subst, sym}
use Rattle.std.proofs.lemmas.List.{take_more}
use Rattle.std.proofs.lemmas.List.Elements.{All-contains, Contains-get_or}
use Rattle.hack_conflicts.specs.Rules.{IsChoice}
use Rattle.hack_conflicts.specs.Runs.{HasFailed, IsClear, Run}
use Rattle.hack_conflicts.specs.declared.rules.Rules.{Rules}
use Rattle.hack_conflicts.specs.declared.tried.BuildOutcome.{BuildOutcome}

-- sets that were tried may be chosen
pub tried_chosen : (r : Rules) (runs : List Run) (o : BuildOutcome) (sets : List (List Bool)) → All (λ (run : Run). IsChoice r run.set) runs → All (λ s. Contains runs (record { set = s; outcome = o })) sets → All (IsChoice r) sets
tried_chosen r runs o sets chosen had = λ k d lt. All-contains (λ (run : Run). IsChoice r run.set) runs (record { set = _; outcome = o }) chosen (had k d lt)

zip-push : {A B : Type 0} (R : A → B → Type 0) (xs : List A) (ys : List B) (x : A) (y : B) → AllZip R xs ys → R x y → AllZip R (xs ++ x ∷ []) (ys ++ y ∷ [])
zip-push R [] [] x y z r = (r, tt)
zip-push R [] (b ∷ ys) x y z r = absurd z
zip-push R (a ∷ xs) [] x y z r = absurd z
zip-push R (a ∷ xs) (b ∷ ys) x y z r = (z.0, zip-push R xs ys x y z.1 r)

-- one element more
pub zip_more : {A B : Type 0} (R : A → B → Type 0) (xs : List A) (i : ℕ) (d : A) → i < length xs → (ys : List B) (y : B) → R (get_or xs i d) y → AllZip R (take i xs) ys → AllZip R (take (i + 1) xs) (ys ++ y ∷ [])
zip_more R xs i d lt ys y is before = subst (λ zs. AllZip R zs (ys ++ y ∷ [])) (sym (take_more xs i d lt)) (zip-push R (take i xs) ys (get_or xs i d) y before is)

-- a run that failed is among the runs
pub failed_at : (runs : List Run) (conflicts : List (List Bool)) (k : ℕ) (d : Run) → k < length runs → IsClear conflicts (get_or runs k d) → HasFailed runs (get_or runs k d).set
failed_at runs conflicts k d lt clear = subst (λ (o : BuildOutcome). Contains runs (record { set = (get_or runs k d).set; outcome = o })) clear.0 (Contains-get_or runs k d lt)

pub zip_length : {A B : Type 0} (R : A → B → Type 0) (xs : List A) (ys : List B) → AllZip R xs ys → length xs ≡ length ys
zip_length R [] [] z = refl
zip_length R [] (b ∷ ys) z = absurd z
zip_length R (a ∷ xs) [] z = absurd z
zip_length R (a ∷ xs) (b ∷ ys) z = ap suc (zip_length R xs ys z.1)
