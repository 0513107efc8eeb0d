-- A text is split at the first occurrence of a byte.
use Rattle.std.proofs.Common.{◌≡◌, ◌≢◌, ℕ, ◌+◌, ◌<◌, ◌==◌, ◌++◌, List, ◌∷◌, Bool, true, false, cond, length, take, drop, get_or, nat_lt, lt-ltb, length-append, Some, None, arith, refl, ap, sym, ◌∙◌}
use Rattle.std.specs.List.{after_first, position_or_len}
use Rattle.std.proofs.lemmas.Bool.Decides.{nat_tests}
use Rattle.std.proofs.lemmas.Bool.{eqb-true, ltb-true}
use Rattle.std.proofs.lemmas.List.{take_at, drop_at, drop-drop, take_all, get_or_append_left, get_or_at}
use Rattle.std.proofs.lemmas.List.Sums.{position_or_len_is, split_at_first, passes_at_first}
use Rattle.hack_base.specs.Cuts.{front_of, rest_of}

-- a text does not have the byte
abbrev pub Lacks : ℕ → List ℕ → Type 0
Lacks b xs = (i : ℕ) → i < length xs → get_or xs i 0 ≢ b

not-byte : (c b : ℕ) → c ≢ b → (c == b) ≡ false
not-byte c b h = grind (arith, nat_tests)

place-joined : (b : ℕ) (xs ys : List ℕ) → Lacks b xs → position_or_len (λ c. c == b) (xs ++ b ∷ ys) ≡ length xs
place-joined b xs ys h = position_or_len_is (λ c. c == b) (xs ++ b ∷ ys) (length xs) 0 (omega (arith, length-append xs (b ∷ ys)))
    (λ k l. rw (get_or_append_left xs (b ∷ ys) 0 k l) (not-byte (get_or xs k 0) b (h k l)))
    (λ l. let same : (b == b) ≡ true = grind (arith, nat_tests) in rw (get_or_at xs b ys 0 (length xs) refl) same)

pub front-joined : (b : ℕ) (xs ys : List ℕ) → Lacks b xs → front_of b (xs ++ b ∷ ys) ≡ xs
front-joined b xs ys h = ap (λ n. take n (xs ++ b ∷ ys)) (place-joined b xs ys h) ∙ take_at xs (b ∷ ys) (length xs) refl

pub rest-joined : (b : ℕ) (xs ys : List ℕ) → Lacks b xs → rest_of b (xs ++ b ∷ ys) ≡ Some ys
rest-joined b xs ys h =
    let e = place-joined b xs ys h in
    let l : nat_lt (position_or_len (λ c. c == b) (xs ++ b ∷ ys)) (length (xs ++ b ∷ ys)) ≡ true = lt-ltb _ _ (omega (arith, e, length-append xs (b ∷ ys))) in
    rw l (ap Some (ap (λ n. drop (n + 1) (xs ++ (b ∷ ys))) e ∙ sym (drop-drop 1 (length xs) (xs ++ (b ∷ ys))) ∙ ap (λ t. drop 1 t) (drop_at xs (b ∷ ys) (length xs) refl)))

place-alone : (b : ℕ) (xs : List ℕ) → Lacks b xs → position_or_len (λ c. c == b) xs ≡ length xs
place-alone b xs h = position_or_len_is (λ c. c == b) xs (length xs) 0 (omega arith) (λ k l. not-byte (get_or xs k 0) b (h k l)) (λ l. absurd (omega arith))

pub front-alone : (b : ℕ) (xs : List ℕ) → Lacks b xs → front_of b xs ≡ xs
front-alone b xs h = ap (λ n. take n xs) (place-alone b xs h) ∙ take_all (length xs) xs (omega arith)

pub rest-alone : (b : ℕ) (xs : List ℕ) → Lacks b xs → rest_of b xs ≡ None
rest-alone b xs h =
    let e = place-alone b xs h in
    let l : nat_lt (position_or_len (λ c. c == b) xs) (length xs) ≡ false = grind (arith, nat_tests, e) in
    rw l refl

-- a text that has the byte consists of the text before it, the byte, and the rest
pub rest-cut : (b : ℕ) (text rest : List ℕ) → rest_of b text ≡ Some rest → text ≡ front_of b text ++ b ∷ rest
rest-cut b text rest e = cases (nat_lt (position_or_len (λ c. c == b) text) (length text)) refl e
  where
    cases : (t : Bool) → nat_lt (position_or_len (λ c. c == b) text) (length text) ≡ t → cond t (Some (after_first (λ c. c == b) text)) None ≡ Some rest → text ≡ front_of b text ++ b ∷ rest
    cases true t f =
        let l : position_or_len (λ c. c == b) text < length text = ltb-true _ _ t in
        let same : after_first (λ c. c == b) text ≡ rest = cc in
        let passes : (get_or text (position_or_len (λ c. c == b) text) 0 == b) ≡ true = passes_at_first (λ c. c == b) text 0 l in
        let at : get_or text (position_or_len (λ c. c == b) text) 0 ≡ b = eqb-true _ _ passes in
        split_at_first (λ c. c == b) text 0 l ∙ ap (λ (x : ℕ). front_of b text ++ x ∷ after_first (λ c. c == b) text) at ∙ ap (λ (xs : List ℕ). front_of b text ++ b ∷ xs) same
    cases false t f = absurd (cc)
