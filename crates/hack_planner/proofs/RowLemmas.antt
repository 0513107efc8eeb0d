-- A row for each run, one more at a time.
use Rattle.std.proofs.Common.{◌≡◌, ◌∙◌, ℕ, ◌+◌, ◌<◌, List, [], ◌∷◌, ◌++◌, length, take, sym, ap, subst, Some}
use Rattle.std.specs.Prelude.{Vec, slice_get}
use Rattle.std.specs.List.{AllZip}
use Rattle.std.proofs.lemmas.List.{map-append, take_more}
use Rattle.std.proofs.lemmas.Option.{get_or_from_slice_get}
use Rattle.hack_samples.specs.Sets.{rows_of}
use Rattle.hack_load.proofs.FeatureLemmas.{each-join}

pub rows-more : {A X Z : Type 0} (P : A → List X → Type 0) (runs : List A) (k : ℕ) (run : A) (rows new : List (Vec X Z)) (row : Vec X Z) → k < length runs → slice_get runs k ≡ Some run → P run row.items → new ≡ rows ++ row ∷ []
    → AllZip P (take k runs) (rows_of rows) → AllZip P (take (k + 1) runs) (rows_of new)
rows-more P runs k run rows new row lt at is pushed before =
    let taken : take (k + 1) runs ≡ take k runs ++ run ∷ [] = take_more runs k run lt ∙ ap (λ r. take k runs ++ r ∷ []) (get_or_from_slice_get runs k run run at) in
    let grown = ap rows_of pushed ∙ map-append (λ (r : Vec _ _). r.items) rows (row ∷ []) in
    subst (λ l. AllZip P l (rows_of new)) (sym taken) (subst (AllZip P (take k runs ++ run ∷ [])) (sym grown) (each-join P (take k runs) (run ∷ []) (rows_of rows) (row.items ∷ []) before (is, tt)))
