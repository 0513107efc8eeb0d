-- A text that names a piece is read as it.
use Rattle.std.proofs.Common.{◌≡◌, ◌≢◌, ℕ, ◌<◌, ◌≤◌, ◌&&◌, ◌++◌, List, [], ◌∷◌, Bool, true, false, not, cond, length, get_or, nat_lt, lt-ltb, append_assoc, option_and_then, Option, Some, None, arith, refl, ap, sym, subst, ◌∙◌}
use Rattle.std.proofs.lemmas.Bool.Decides.{nat_tests}
use Rattle.std.proofs.lemmas.Bool.{ltb-true}
use Rattle.hack_base.specs.Numbers.{number_of}
use Rattle.hack_base.specs.Cuts.{front_of, rest_of}
use Rattle.hack_base.proofs.NumberLemmas.{number-read, number-holds}
use Rattle.hack_base.proofs.CutLemmas.{front-joined, rest-joined, rest-cut}
use Rattle.hack_partition.specs.Partitions.{IsPiece, IsNoPiece, piece_if, piece_of}
use Rattle.hack_partition.proofs.PieceTexts.{IsNumber-no_slash}

Some-same : {A : Type 0} {a b : A} → Some a ≡ Some b → a ≡ b
Some-same e = cc

-- m/n, where m is from 1 to n
within : (m n : ℕ) → 0 < m → m ≤ n → piece_if (Some m) (Some n) ≡ Some (m, n)
within m n l w =
    let a : nat_lt 0 m ≡ true = lt-ltb _ _ l in
    let b : nat_lt n m ≡ false = grind (arith, nat_tests) in
    rw (a, b) refl

abbrev read_rest : List ℕ → List ℕ → Option (ℕ × ℕ)
read_rest text rest = piece_if (number_of 64 (front_of 47 text)) (number_of 64 rest)

pub piece-read : (text : List ℕ) (m n : ℕ) → IsPiece text m n → piece_of text ≡ Some (m, n)
piece-read text m n h = subst (λ (t : List ℕ). piece_of t ≡ Some (m, n)) (sym (h.2 ∙ append_assoc h.0 (47 ∷ []) h.1)) at
  where
    no_slash : (i : ℕ) → i < length h.0 → get_or h.0 i 0 ≢ 47
    no_slash = IsNumber-no_slash h.0 m h.3

    front : front_of 47 (h.0 ++ 47 ∷ h.1) ≡ h.0
    front = front-joined 47 h.0 h.1 no_slash

    first : number_of 64 (front_of 47 (h.0 ++ 47 ∷ h.1)) ≡ Some m
    first = ap (number_of 64) front ∙ number-read 64 m h.0 h.3

    at : piece_of (h.0 ++ 47 ∷ h.1) ≡ Some (m, n)
    at = ap (option_and_then (read_rest (h.0 ++ 47 ∷ h.1))) (rest-joined 47 h.0 h.1 no_slash) ∙ ap (λ o. piece_if o (number_of 64 h.1)) first ∙ ap (λ o. piece_if (Some m) o) (number-read 64 n h.1 h.4) ∙ within m n h.5 h.6

piece-holds : (text : List ℕ) (p : ℕ × ℕ) → piece_of text ≡ Some p → IsPiece text p.0 p.1
piece-holds text p e = by_rest (rest_of 47 text) refl e
  where
    in_range : (b c : Bool) (m n : ℕ) → nat_lt 0 m ≡ b → nat_lt n m ≡ c → cond (b && not c) (Some (m, n)) None ≡ Some p → (m ≡ p.0) × (n ≡ p.1) × (0 < m) × (m ≤ n)
    in_range true false m n a z k =
        let same : (m, n) ≡ p = Some-same k in
        (ap (λ (q : ℕ × ℕ). q.0) same, ap (λ (q : ℕ × ℕ). q.1) same, ltb-true 0 m a, grind (arith, nat_tests))
    in_range true true m n a z k = absurd (cc)
    in_range false c m n a z k = absurd (cc)

    by_numbers : (a b : Option ℕ) (rest : List ℕ) → text ≡ front_of 47 text ++ 47 ∷ rest → number_of 64 (front_of 47 text) ≡ a → number_of 64 rest ≡ b → piece_if a b ≡ Some p → IsPiece text p.0 p.1
    by_numbers (Some m) (Some n) rest t a b k =
        let r = in_range (nat_lt 0 m) (nat_lt n m) m n refl refl k in
        (front_of 47 text, rest, t ∙ sym (append_assoc (front_of 47 text) (47 ∷ []) rest), number-holds 64 p.0 (front_of 47 text) (a ∙ ap Some r.0), number-holds 64 p.1 rest (b ∙ ap Some r.1), subst (λ x. 0 < x) r.0 r.2, omega (arith, r.0, r.1, r.3))
    by_numbers (Some m) None rest t a b k = absurd (cc)
    by_numbers None b rest t a z k = absurd (cc)

    by_rest : (o : Option (List ℕ)) → rest_of 47 text ≡ o → option_and_then (read_rest text) o ≡ Some p → IsPiece text p.0 p.1
    by_rest None r k = absurd (cc)
    by_rest (Some rest) r k = by_numbers (number_of 64 (front_of 47 text)) (number_of 64 rest) rest (rest-cut 47 text rest r) refl refl k

pub piece-unread : (text : List ℕ) → IsNoPiece text → piece_of text ≡ None
piece-unread text h = cases (piece_of text) refl
  where
    cases : (o : Option (ℕ × ℕ)) → piece_of text ≡ o → o ≡ None
    cases None e = refl
    cases (Some p) e = absurd (h p.0 p.1 (piece-holds text p e))
