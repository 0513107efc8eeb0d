-- What the rows of exclusions and of at-least-one groups say.
use Rattle.std.proofs.Common.{◌≡◌, ℕ, ◌<◌, List, [], ◌∷◌, ◌++◌, map, length, refl, sym, ◌∙◌, subst, arith, Bool, true, false, cond, inl, inr, ◌⊎◌, Contains, IsTrue, replicate}
use Rattle.std.proofs.lemmas.Bool.{false≢true}
use Rattle.std.proofs.lemmas.List.{get_or_push, get_or-replicate, get_or-map, length-map, length-replicate}
use Rattle.std.proofs.Math.ListN.{get_or-append}
use Rattle.std.proofs.lemmas.List.Elements.{Contains-append_left, Contains-append_right, Contains-append_cases}
use Rattle.hack_base.proofs.Members.{Contains-nil, Contains-cons_cases, Contains-head, Contains-map, Contains-map_from}
use Rattle.hack_conflicts.specs.Sets.{Has, mark}
use Rattle.hack_closures.specs.Closures.{candidate_at}

-- the marks of candidates, and one more for all features
abbrev pub marked : List ℕ → Bool → List Bool → List Bool
marked alone all row = map (mark row) alone ++ cond all (true ∷ []) []

abbrev pub every : List ℕ → Bool → List Bool
every alone all = replicate (length alone) true ++ cond all (true ∷ []) []

pub marked_at : (alone : List ℕ) (all : Bool) (row : List Bool) (x : ℕ) → x < length alone → mark (marked alone all row) x ≡ mark row (candidate_at alone x)
marked_at alone all row x lt =
    get_or-append (map (mark row) alone) (cond all (true ∷ []) []) false x (let n = length-map alone (mark row) in omega arith) ∙ get_or-map (mark row) alone x 0 false lt

pub marked_last : (alone : List ℕ) (all : Bool) (row : List Bool) → IsTrue all → Has (marked alone all row) (length alone)
marked_last alone true row e = get_or_push (map (mark row) alone) true false (length alone) (length-map alone (mark row))
marked_last alone false row e = absurd (false≢true e)

pub every_at : (alone : List ℕ) (all : Bool) (x : ℕ) → x < length alone → Has (every alone all) x
every_at alone all x lt =
    get_or-append (replicate (length alone) true) (cond all (true ∷ []) []) false x (let n = length-replicate (length alone) true in omega arith) ∙ get_or-replicate (length alone) x true false lt

pub every_last : (alone : List ℕ) (all : Bool) → IsTrue all → Has (every alone all) (length alone)
every_last alone true e = get_or_push (replicate (length alone) true) true false (length alone) (length-replicate (length alone) true)
every_last alone false e = absurd (false≢true e)

-- the rows of which a set needs a position each
abbrev pub needed_rows : List ℕ → Bool → Bool → List (List Bool) → List (List Bool)
needed_rows alone with_empty all serving = map (λ row. marked alone all row) serving ++ cond with_empty [] (every alone all ∷ [])

rest_from : (alone : List ℕ) (with_empty all : Bool) (row : List Bool) → Contains (cond with_empty [] (every alone all ∷ [])) row → (with_empty ≡ false) × (every alone all ≡ row)
rest_from alone true all row h = absurd (Contains-nil row h)
rest_from alone false all row h = elim (Contains-cons_cases (every alone all) [] row h) [ inl e ↦ (refl, e) | inr n ↦ absurd (Contains-nil row n) ]

-- such a row says which candidates serve a group, or is of all positions
pub needed_from : (alone : List ℕ) (with_empty all : Bool) (serving : List (List Bool)) (row : List Bool) → Contains (needed_rows alone with_empty all serving) row
    → ((from : List Bool) × Contains serving from × (marked alone all from ≡ row)) ⊎ ((with_empty ≡ false) × (every alone all ≡ row))
needed_from alone with_empty all serving row h =
    elim (Contains-append_cases (map (λ row. marked alone all row) serving) (cond with_empty [] (every alone all ∷ [])) row h) [
      | inl w ↦ inl (Contains-map_from (λ row. marked alone all row) serving row w)
      | inr w ↦ inr (rest_from alone with_empty all row w)
    ]

pub needed_serving : (alone : List ℕ) (with_empty all : Bool) (serving : List (List Bool)) (from : List Bool) → Contains serving from → Contains (needed_rows alone with_empty all serving) (marked alone all from)
needed_serving alone with_empty all serving from h =
    Contains-append_left (map (λ row. marked alone all row) serving) (cond with_empty [] (every alone all ∷ [])) (marked alone all from) (Contains-map (λ row. marked alone all row) serving from h)

pub needed_every : (alone : List ℕ) (with_empty all : Bool) (serving : List (List Bool)) → with_empty ≡ false → Contains (needed_rows alone with_empty all serving) (every alone all)
needed_every alone with_empty all serving e =
    Contains-append_right (map (λ row. marked alone all row) serving) (cond with_empty [] (every alone all ∷ [])) (every alone all)
    (subst (λ b. Contains (cond b [] (every alone all ∷ [])) (every alone all)) (sym e) (Contains-head (every alone all) []))
