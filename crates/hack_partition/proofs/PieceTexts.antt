-- Where the text of a piece is split.
use Rattle.std.proofs.Common.{◌≡◌, ◌≢◌, ℕ, zero, suc, ◌<◌, ◌≤◌, List, [], ◌∷◌, ◌==◌, Bool, true, false, length, drop, get_or, slice_index, cond, arith, refl, sym, subst, ◌∙◌, append_assoc, lit<, Some, None}
use denote.Ref.{Bor}
use Rattle.std.proofs.lemmas.Bool.Decides.{nat_tests}
use Rattle.std.proofs.lemmas.Str.Parse.{IsNumeralModel, numerals_by_value, tells_digits, not_in_digits}
use Rattle.std.proofs.lemmas.Str.Pattern.{IsSplitOnceResult, split_after, split_parts}
use Rattle.std.specs.Str.Parse.{AllDigits, digits_value}
use Rattle.hack_base.specs.Numbers.{IsNumber}
use Rattle.hack_partition.specs.Partitions.{IsPiece, IsNoPiece}

decimals : IsNumeralModel (AllDigits 10) (digits_value 10)
decimals = numerals_by_value (AllDigits 10) tells_digits

digits-no_slash : (ds : List ℕ) → AllDigits 10 ds → (i : ℕ) → i < length ds → get_or ds i 0 ≢ 47
digits-no_slash ds a = not_in_digits decimals ds 47 a (λ r. absurd (omega (arith, r.0, r.1)))

signed-no_slash : (t : Bool) (text : List ℕ) → AllDigits 10 (drop (cond t 1 0) text) → (slice_index text 0 == 43) ≡ t → (i : ℕ) → i < length text → get_or text i 0 ≢ 47
signed-no_slash false text a e i l = digits-no_slash text a i l
signed-no_slash true [] a e i l = absurd (omega arith)
signed-no_slash true (b ∷ bs) a e zero l = λ q. absurd (grind (arith, nat_tests))
signed-no_slash true (b ∷ bs) a e (suc i) l = digits-no_slash bs a i (omega arith)

-- a number has no slash
pub IsNumber-no_slash : (text : List ℕ) (n : ℕ) → IsNumber 64 text n → (i : ℕ) → i < length text → get_or text i 0 ≢ 47
IsNumber-no_slash text n h = signed-no_slash (slice_index text 0 == 43) text h.0.1 refl

-- a text without a slash is no piece
pub uncut-no_piece : (text : List ℕ) → IsSplitOnceResult 47 text None → IsNoPiece text
uncut-no_piece text cut m n p = split_after 47 text p.0 p.1 None cut (lit< tt) (p.2 ∙ append_assoc p.0 (47 ∷ []) p.1) (IsNumber-no_slash p.0 m p.3)

-- a piece is split at its only slash
pub cut-piece : (text : List ℕ) (a b : Bor (List ℕ)) → IsSplitOnceResult 47 text (Some (a, b)) → (m n : ℕ) → IsPiece text m n → IsNumber 64 a.now m × IsNumber 64 b.now n × (0 < m) × (m ≤ n)
cut-piece text a b cut m n p =
    let e = split_after 47 text p.0 p.1 (Some (a, b)) cut (lit< tt) (p.2 ∙ append_assoc p.0 (47 ∷ []) p.1) (IsNumber-no_slash p.0 m p.3) in
    (subst (λ (t : List ℕ). IsNumber 64 t m) (sym e.0) p.3, subst (λ (t : List ℕ). IsNumber 64 t n) (sym e.1) p.4, p.5, p.6)

-- two numbers with a slash between them are a piece
pub joined-piece : (text : List ℕ) (a b : Bor (List ℕ)) → IsSplitOnceResult 47 text (Some (a, b)) → (m n : ℕ) → IsNumber 64 a.now m → IsNumber 64 b.now n → 0 < m → m ≤ n → IsPiece text m n
joined-piece text a b cut m n h k l w =
    let e = split_parts 47 text (Some (a, b)) cut (lit< tt) in
    (a.now, b.now, e.0 ∙ sym (append_assoc a.now (47 ∷ []) b.now), h, k, l, w)
