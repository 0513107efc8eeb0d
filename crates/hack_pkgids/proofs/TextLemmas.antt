-- Texts that are cut: at the first `://`, at the first separator, after a name.
use Rattle.std.proofs.Common.{◌≡◌, ◌≢◌, ◌⊎◌, ◌==◌, ◌||◌, not, ℕ, ◌+◌, ◌<◌, ◌≤◌, min, nat_lt, Bool, true, false, cond, [], ◌∷◌, ◌++◌, length, take, drop, Option, Some, None, MatchOption, codes, Bor, arith, refl, sym, ap, ◌∙◌, inl, inr}
use Rattle.std.specs.List.{position_or_len}
use Rattle.std.specs.Option.{option_copied}
use Rattle.std.specs.Str.Pattern.{FindsText, FindsTextPrefix, FindsCharPrefix, SplitsAroundMatch, StripsPrefix}
use Rattle.std.proofs.lemmas.Bool.{cases_Bool}
use Rattle.std.proofs.lemmas.Bool.Decides.{nat_tests}
use Rattle.std.proofs.lemmas.Str.Pattern.{split_text_parts, strip_prefix_char}
use Rattle.std.proofs.lemmas.List.{append_cancel_left, take_at, drop_at, length-take-le}
use Rattle.hack_base.specs.Names.{Name}
use Rattle.hack_pkgids.specs.PackageSpecs.{is_byte}
use Rattle.hack_pkgids.specs.InternalSpecAnswers.{IsNoUrl, IsSchemeCut, IsBehind, behind_byte, cut_by, parts_at_separator, earlier}

le_or_lt : (m n : ℕ) → (m ≤ n) ⊎ (n < m)
le_or_lt m n = grind arith

-- ---- the first `://`

front-first : (text front back : Name) → SplitsAroundMatch (FindsText (codes "://")) text front back → (xs ys : Name) → text ≡ xs ++ (codes "://" ++ ys) → length front ≤ length xs
front-first text front back h xs ys e = elim (le_or_lt (length front) (length xs)) [
  | inl l ↦ l
  | inr l ↦ absurd (h.2.0 (length xs) (omega (arith, l, h.6)) ys (ap (λ t. drop (length xs) t) e ∙ drop_at xs (codes "://" ++ ys) (length xs) refl))
]

pub scheme-from_split : (text : Name) (r : Option (Bor Name × Bor Name)) → MatchOption r (FindsText (codes "://") text None) (λ x. SplitsAroundMatch (FindsText (codes "://")) text x.0.now x.1.now) → MatchOption r (IsNoUrl text) (λ parts. IsSchemeCut text parts.0.now parts.1.now)
scheme-from_split text None h = split_text_parts (codes "://") text None h
scheme-from_split text (Some x) h = record {
  whole = split_text_parts (codes "://") text (Some x) h;
  first = front-first text x.0.now x.1.now h;
}

-- a text has one first `://`
pub scheme-same : (text a x b y : Name) → IsSchemeCut text a x → IsSchemeCut text b y → (a ≡ b) × (x ≡ y)
scheme-same text a x b y h k = (fronts, append_cancel_left (codes "://") x y tails)
  where
    same : length a ≡ length b
    same = let l : length a ≤ length b = h.first b y k.whole in let m : length b ≤ length a = k.first a x h.whole in omega arith

    joins : a ++ (codes "://" ++ x) ≡ b ++ (codes "://" ++ y)
    joins = sym h.whole ∙ k.whole

    fronts : a ≡ b
    fronts = sym (take_at a (codes "://" ++ x) (length a) refl) ∙ ap (λ t. take (length a) t) joins ∙ take_at b (codes "://" ++ y) (length a) (sym same)

    tails : codes "://" ++ x ≡ codes "://" ++ y
    tails = append_cancel_left a (codes "://" ++ x) (codes "://" ++ y) (joins ∙ ap (λ t. t ++ (codes "://" ++ y)) (sym fronts))

-- ---- the front

pub behind-from_strip : (name text : Name) (r : Option (Bor Name)) → MatchOption r (FindsTextPrefix name text None) (λ x. StripsPrefix (FindsTextPrefix name) text x.now) → IsBehind name text (option_copied r)
behind-from_strip name text None h = λ rest e. h rest e
behind-from_strip name text (Some x) h = h.1.1 ∙ ap (λ t. name ++ t) (sym h.2)

byte-front : (b : ℕ) (text : Name) → ((rest : Name) → text ≢ b ∷ rest) → behind_byte b text ≡ None
byte-front b [] h = refl
byte-front b (x ∷ rest) h = elim (cases_Bool (x == b)) [
  | inl t ↦ absurd (h rest (ap (λ y. y ∷ rest) (let e : x ≡ b = grind (arith, nat_tests) in e)))
  | inr f ↦ ap (λ c. cond c (Some rest) None) f
]

pub byte-from_strip : (b : ℕ) (text : Name) (r : Option (Bor Name)) → MatchOption r (FindsCharPrefix b text None) (λ x. (n : ℕ) × FindsCharPrefix b text (Some n) × (x.now ≡ drop n text) × (length x.now + n ≡ length text)) → b < 128 → option_copied r ≡ behind_byte b text
byte-from_strip b text None h low = sym (byte-front b text (strip_prefix_char b text None h low))
byte-from_strip b text (Some x) h low = sym (ap (behind_byte b) (strip_prefix_char b text (Some x) h low) ∙ ap (λ c. cond c (Some x.now) None) (let e : (b == b) ≡ true = grind (arith, nat_tests) in e))

-- ---- the first separator

either-step : (a b : Bool) (m p q : ℕ) → m ≡ min p q → cond (not (a || b)) (1 + m) 0 ≡ min (cond (not a) (1 + p) 0) (cond (not b) (1 + q) 0)
either-step true true m p q e = omega arith
either-step true false m p q e = omega arith
either-step false true m p q e = omega arith
either-step false false m p q e = omega arith

-- the first byte of two kinds is the first of the one or of the other
either : (p q : ℕ → Bool) (text : Name) → position_or_len (λ x. p x || q x) text ≡ min (position_or_len p text) (position_or_len q text)
either p q [] = omega arith
either p q (x ∷ text) = either-step (p x) (q x) (position_or_len (λ y. p y || q y) text) (position_or_len p text) (position_or_len q text) (either p q text)

-- a cut at a place, if it is within
abbrev at_place : ℕ → Name → Option (Name × Name)
at_place n text = cond (nat_lt n (length text)) (Some (take n text, drop (n + 1) text)) None

at-least : (n : ℕ) (text : Name) → nat_lt n (length text) ≡ true → at_place n text ≡ Some (take n text, drop (n + 1) text)
at-least n text e = ap (λ b. cond b (Some (take n text, drop (n + 1) text)) None) e

past-end : (n : ℕ) (text : Name) → nat_lt n (length text) ≡ false → at_place n text ≡ None
past-end n text e = ap (λ b. cond b (Some (take n text, drop (n + 1) text)) None) e

lengths : (p q : ℕ) (text : Name) (c : Bool) → nat_lt p (length text) ≡ true → nat_lt q (length text) ≡ true → nat_lt q p ≡ c → nat_lt (length (take q text)) (length (take p text)) ≡ c
lengths p q text c ea eb ec =
    let lp : length (take p text) ≡ p = length-take-le p text (grind (arith, nat_tests)) in
    let lq : length (take q text) ≡ q = length-take-le q text (grind (arith, nat_tests)) in
    ap (λ n. nat_lt n (length (take p text))) lq ∙ ap (λ n. nat_lt q n) lp ∙ ec

least : (p q : ℕ) → nat_lt q p ≡ true → q ≡ min p q
least p q e = grind (arith, nat_tests)

least-other : (p q : ℕ) → nat_lt q p ≡ false → p ≡ min p q
least-other p q e = grind (arith, nat_tests)

within-past : (p q n : ℕ) → nat_lt p n ≡ true → nat_lt q n ≡ false → p ≡ min p q
within-past p q n ea eb = grind (arith, nat_tests)

past-within : (p q n : ℕ) → nat_lt p n ≡ false → nat_lt q n ≡ true → q ≡ min p q
past-within p q n ea eb = grind (arith, nat_tests)

both-past : (p q n : ℕ) → nat_lt p n ≡ false → nat_lt q n ≡ false → nat_lt (min p q) n ≡ false
both-past p q n ea eb = grind (arith, nat_tests)

earlier-at : (p q : ℕ) (text : Name) (a b c : Bool) → nat_lt p (length text) ≡ a → nat_lt q (length text) ≡ b → nat_lt q p ≡ c
    → earlier (cond a (Some (take p text, drop (p + 1) text)) None) (cond b (Some (take q text, drop (q + 1) text)) None) ≡ at_place (min p q) text
earlier-at p q text true true true ea eb ec =
    ap (λ b. cond b (Some (take q text, drop (q + 1) text)) (Some (take p text, drop (p + 1) text))) (lengths p q text true ea eb ec)
    ∙ sym (at-least q text eb) ∙ ap (λ n. at_place n text) (least p q ec)
earlier-at p q text true true false ea eb ec =
    ap (λ b. cond b (Some (take q text, drop (q + 1) text)) (Some (take p text, drop (p + 1) text))) (lengths p q text false ea eb ec)
    ∙ sym (at-least p text ea) ∙ ap (λ n. at_place n text) (least-other p q ec)
earlier-at p q text true false c ea eb ec = sym (at-least p text ea) ∙ ap (λ n. at_place n text) (within-past p q (length text) ea eb)
earlier-at p q text false true c ea eb ec = sym (at-least q text eb) ∙ ap (λ n. at_place n text) (past-within p q (length text) ea eb)
earlier-at p q text false false c ea eb ec = sym (past-end (min p q) text (both-past p q (length text) ea eb))

pub parted-earlier : (text : Name) → earlier (cut_by (is_byte 64) text) (cut_by (is_byte 58) text) ≡ parts_at_separator text
parted-earlier text =
    earlier-at (position_or_len (is_byte 64) text) (position_or_len (is_byte 58) text) text _ _ _ refl refl refl
    ∙ ap (λ n. at_place n text) (sym (either (is_byte 64) (is_byte 58) text))
