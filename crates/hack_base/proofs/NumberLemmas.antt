-- A text that is a number is read as it.
use Rattle.std.proofs.Common.{◌≡◌, ℕ, ◌<◌, ◌≤◌, ◌^◌, ◌&&◌, List, [], ◌∷◌, Bool, true, false, cond, length, nat_lt, Option, Some, None, Result, Ok, Err, arith, refl, ap, sym, subst}
use Rattle.std.specs.Cmp.{first_so, second_so}
use Rattle.std.specs.List.{list_all}
use Rattle.std.specs.Result.{result_ok}
use Rattle.std.specs.Str.Parse.{AllDigits, IsNumeral, ParsesUnsigned, digits_value, without_leading_plus}
use Rattle.std.proofs.lemmas.Bool.Decides.{nat_tests}
use Rattle.std.proofs.lemmas.Str.{digit_value_digit}
use Rattle.std.proofs.lemmas.Str.Parse.{digit_from_value}
use Rattle.hack_base.specs.Numbers.{IsNumber, is_digit, is_digits, number_of}

digits-all : (ds : List ℕ) → AllDigits 10 ds → list_all is_digit ds ≡ true
digits-all [] a = refl
digits-all (c ∷ cs) a =
    let k = digit_from_value c a.0 in
    let e : is_digit c ≡ true = grind (arith, nat_tests, k.0, k.1) in
    rw e (digits-all cs a.1)

all-digits : (ds : List ℕ) → list_all is_digit ds ≡ true → AllDigits 10 ds
all-digits [] e = tt
all-digits (c ∷ cs) e =
    let first : is_digit c ≡ true = first_so (is_digit c) (list_all is_digit cs) e in
    let low : 48 ≤ c = grind (arith, nat_tests) in
    let high : c ≤ 57 = grind (arith, nat_tests) in
    (omega (arith, digit_value_digit c (low, high)), all-digits cs (second_so (is_digit c) (list_all is_digit cs) e))

-- the test of a number
abbrev is_below : ℕ → List ℕ → Bool
is_below limit ds = is_digits ds && nat_lt (digits_value 10 ds) limit

below-true : (limit : ℕ) (ds : List ℕ) → IsNumeral 10 ds → digits_value 10 ds < limit → is_below limit ds ≡ true
below-true limit ds h l =
    let all = digits-all ds h.1 in
    let some : nat_lt 0 (length ds) ≡ true = grind (arith, nat_tests, h.0) in
    let small : nat_lt (digits_value 10 ds) limit ≡ true = grind (arith, nat_tests) in
    rw (some, all, small) refl

below-holds : (limit : ℕ) (ds : List ℕ) → is_below limit ds ≡ true → IsNumeral 10 ds × (digits_value 10 ds < limit)
below-holds limit ds e =
    let digits : is_digits ds ≡ true = first_so (is_digits ds) (nat_lt (digits_value 10 ds) limit) e in
    let small : nat_lt (digits_value 10 ds) limit ≡ true = second_so (is_digits ds) (nat_lt (digits_value 10 ds) limit) e in
    let some : nat_lt 0 (length ds) ≡ true = first_so (nat_lt 0 (length ds)) (list_all is_digit ds) digits in
    let long : 0 < length ds = grind (arith, nat_tests) in
    let low : digits_value 10 ds < limit = grind (arith, nat_tests) in
    ((long, all-digits ds (second_so (nat_lt 0 (length ds)) (list_all is_digit ds) digits)), low)

-- a number is read
pub number-read : (bits n : ℕ) (text : List ℕ) → IsNumber bits text n → number_of bits text ≡ Some n
number-read bits n text h =
    let ds = without_leading_plus text in
    let t : is_below (2 ^ bits) ds ≡ true = below-true (2 ^ bits) ds h.0 (subst (λ v. v < 2 ^ bits) (sym h.1) h.2) in
    rw t (ap Some h.1)

-- what is read is a number
pub number-holds : (bits n : ℕ) (text : List ℕ) → number_of bits text ≡ Some n → IsNumber bits text n
number-holds bits n text e = cases (is_below (2 ^ bits) (without_leading_plus text)) refl e
  where
    cases : (b : Bool) → is_below (2 ^ bits) (without_leading_plus text) ≡ b → cond b (Some (digits_value 10 (without_leading_plus text))) None ≡ Some n → IsNumber bits text n
    cases true t f =
        let same : digits_value 10 (without_leading_plus text) ≡ n = cc in
        let h = below-holds (2 ^ bits) (without_leading_plus text) t in
        (h.0, same, subst (λ v. v < 2 ^ bits) same h.1)
    cases false t f = absurd (cc)

-- a text that is no number is not read
pub number-unread : (bits : ℕ) (text : List ℕ) → ((n : ℕ) → IsNumber bits text n → ⊥) → number_of bits text ≡ None
number-unread bits text h = cases (number_of bits text) refl
  where
    cases : (o : Option ℕ) → number_of bits text ≡ o → o ≡ None
    cases None e = refl
    cases (Some n) e = absurd (h n (number-holds bits n text e))

-- what `parse` returns for an unsigned type
pub number-parsed : {E : Type 0} (bits : ℕ) (text : List ℕ) (r : Result ℕ E) (n : ℕ) → ParsesUnsigned bits 10 text r → result_ok r ≡ Some n → IsNumber bits text n
number-parsed bits text (Ok x) n h e = let same : x ≡ n = cc in (h.0.0, omega (arith, h.1), omega (arith, h.0.1, h.1))
number-parsed bits text (Err x) n h e = absurd (cc)

pub number-unparsed : {E : Type 0} (bits : ℕ) (text : List ℕ) (r : Result ℕ E) (n : ℕ) → ParsesUnsigned bits 10 text r → result_ok r ≡ None → IsNumber bits text n → ⊥
number-unparsed bits text (Ok x) n h e k = absurd (cc)
number-unparsed bits text (Err x) n h e k = h (k.0, omega (arith, k.1, k.2))

pub number-parses : {E : Type 0} (bits : ℕ) (text : List ℕ) (r : Result ℕ E) → ParsesUnsigned bits 10 text r → result_ok r ≡ number_of bits text
number-parses {E} bits text (Ok x) h = sym (number-read bits x text (number-parsed {E = E} bits text (Ok x) x h refl))
number-parses {E} bits text (Err x) h = sym (number-unread bits text (λ n. number-unparsed {E = E} bits text (Err x) n h refl))
