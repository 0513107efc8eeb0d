-- While `toml` reads blanks, strings, words and keys, the scanner's final state stays that of
-- scanning the rest.
use Rattle.std.proofs.Common.{◌≡◌, ℕ, zero, suc, ◌+◌, ◌-◌, Bool, true, false, not, cond, ◌&&◌, ◌||◌, ◌==◌, ◌⊎◌, List, [], ◌∷◌, ◌++◌, length, take, drop, get_or, Option, Some, None, option_map, option_and_then, refl, sym, ap, ◌∙◌, subst, inl, inr, arith, add-zero, get_or-drop}
use Rattle.std.specs.Prelude.{nat_lt, nat_le}
use Rattle.std.proofs.lemmas.Bool.{cases_Bool, false≢true, true≢false, and_parts}
use Rattle.std.proofs.lemmas.Bool.Decides.{nat_tests}
use Rattle.std.proofs.lemmas.List.{drop-drop}
use Rattle.std.proofs.lemmas.Option.{none-some, same_Some}
use Rattle.std.specs.List.{prefix_len, list_all}
use Rattle.std.specs.Char.{is_digit, is_ascii_digit, encode_utf8}
use Rattle.std.specs.Str.Parse.{digits_value}
use Rattle.toml_parser.specs.Lexical.{Read, first, is_ws, is_word, is_bare, is_non_eol, split_while, skip_ws, skip_blank, skip_from}
use Rattle.toml_parser.specs.Strings.{Key, key, key_after, simple_key, starts_string, one_line, quoted, body, special, escape, escape_char, simple_escape, hex_escape, hex_len, is_scalar, is_plain, prepend, after_piece}
use Rattle.toml_parser.specs.Numbers.{word_len, word_value, unquoted}
use Rattle.toml_parser.specs.declared.scalar.Scalar.{Scalar}
use Rattle.hack_manifest.specs.declared.places.ScanState.{ScanState}
use Rattle.hack_manifest.specs.declared.places.ScanState.TheVariants.{Plain, Comment, Opened, Text, Escaped, Lost}
use Rattle.hack_manifest.specs.Internal.{rest_of_read, behind}
use Rattle.hack_manifest.specs.Places.{plain_step, step}

-- scanning the text from p ends in the same state as scanning the rest from q, or in the state Lost
abbrev pub Leads : ScanState → List ℕ → ScanState → List ℕ → Type 0
Leads p text q rest = (behind p text ≡ behind q rest) ⊎ (behind p text ≡ Lost)

pub lost : (text : List ℕ) → behind Lost text ≡ Lost
lost [] = refl
lost (c ∷ cs) = lost cs

pub leads-then : (p q r : ScanState) (a b c : List ℕ) → Leads p a q b → Leads q b r c → Leads p a r c
leads-then p q r a b c (inl one) (inl two) = inl (one ∙ two)
leads-then p q r a b c (inl one) (inr two) = inr (one ∙ two)
leads-then p q r a b c (inr one) two = inr one

-- a byte that is no quote and no bracket, and begins no comment
abbrev pub is_calm : ℕ → Bool
is_calm c = not ((c == 34 || c == 39) || c == 35) && not ((c == 91 || c == 123) || (c == 93 || c == 125))

pub calm-step : (d c : ℕ) → is_calm c ≡ true → plain_step d c ≡ Plain d
calm-step d c h =
    let quote : (c == 34 || c == 39) ≡ false = grind (arith, nat_tests) in
    let hash : (c == 35) ≡ false = grind (arith, nat_tests) in
    let opens : (c == 91 || c == 123) ≡ false = grind (arith, nat_tests) in
    let closes : (c == 93 || c == 125) ≡ false = grind (arith, nat_tests) in
    rw (quote, hash, opens, closes)

-- a run of calm bytes
pub run-stays : (p : ℕ → Bool) → ((c : ℕ) → p c ≡ true → is_calm c ≡ true) → (d : ℕ) (text : List ℕ) → behind (Plain d) text ≡ behind (Plain d) (drop (prefix_len p text) text)
run-stays p calm d [] = refl
run-stays p calm d (c ∷ cs) =
    elim (cases_Bool (p c)) [
      | inl passes ↦
          let next : 1 + prefix_len p cs ≡ suc (prefix_len p cs) = omega arith in
          rw (passes, next, calm-step d c (calm c passes)) (run-stays p calm d cs)
      | inr stops ↦ rw stops
    ]

pub ws-calm : (c : ℕ) → is_ws c ≡ true → is_calm c ≡ true
ws-calm c h = grind (arith, nat_tests)

pub bare-calm : (c : ℕ) → is_bare c ≡ true → is_calm c ≡ true
bare-calm c h = grind (arith, nat_tests)

pub word-calm : (c : ℕ) → is_word c ≡ true → is_calm c ≡ true
word-calm c h = grind (arith, nat_tests)

pub ws-stays : (d : ℕ) (text : List ℕ) → behind (Plain d) text ≡ behind (Plain d) (skip_ws text)
unfolding skip_ws
ws-stays d text = run-stays is_ws ws-calm d text

-- a calm byte is read
pub calm-drop : (d : ℕ) (text : List ℕ) → is_calm (first text) ≡ true → behind (Plain d) text ≡ behind (Plain d) (drop 1 text)
calm-drop d [] calm = refl
calm-drop d (c ∷ cs) calm = rw (calm-step d c calm)

-- a closing bracket is read
pub close-drop : (d : ℕ) (text : List ℕ) → (first text == 93 || first text == 125) ≡ true → behind (Plain (d + 1)) text ≡ behind (Plain d) (drop 1 text)
close-drop d [] h = absurd (false≢true h)
close-drop d (c ∷ cs) h =
    let quote : (c == 34 || c == 39) ≡ false = grind (arith, nat_tests) in
    let hash : (c == 35) ≡ false = grind (arith, nat_tests) in
    let opens : (c == 91 || c == 123) ≡ false = grind (arith, nat_tests) in
    let less : d + 1 - 1 ≡ d = omega arith in
    rw (quote, hash, opens, h, less)

-- no part of a document begins with the text
abbrev pub is_stuck : List ℕ → Bool
is_stuck text = nat_lt (first text) 32 || first text == 127

abbrev pub at_place : Bool → ℕ → ScanState
at_place inside d = cond inside (Comment d) (Plain d)

-- after blank lines and comments comes the rest, or they end in a comment in which the rest is
-- stuck
abbrev pub Skips : ℕ → Bool → List ℕ → List ℕ → Type 0
Skips d inside text rest =
    (behind (at_place inside d) text ≡ behind (Plain d) rest) ⊎ ((behind (at_place inside d) text ≡ behind (Comment d) rest) × (is_stuck rest ≡ true))

pub skips : (d : ℕ) (inside : Bool) (text : List ℕ) → Skips d inside text (skip_from true inside text)
unfolding skip_from
skips d false [] = inl refl
skips d true [] = inr (refl, refl)
skips d false (c ∷ cs) =
    elim (cases_Bool (c == 10 || (c == 13 && first cs == 10))) [
      | inl feed ↦
          let calm : is_calm c ≡ true = grind (arith, nat_tests) in
          rw (feed, calm-step d c calm) (skips d false cs)
      | inr more ↦
          elim (cases_Bool (is_ws c)) [
            | inl ws ↦ rw (more, ws, calm-step d c (ws-calm c ws)) (skips d false cs)
            | inr other ↦
                elim (cases_Bool (c == 35)) [
                  | inl hash ↦
                      let quote : (c == 34 || c == 39) ≡ false = grind (arith, nat_tests) in
                      rw (more, other, hash, quote) (skips d true cs)
                  | inr stop ↦
                      let stays : skip_from true false (c ∷ cs) ≡ c ∷ cs = rw (more, other, stop) in
                      subst (Skips d false (c ∷ cs)) (sym stays) (inl refl)
                ]
          ]
    ]
skips d true (c ∷ cs) =
    elim (cases_Bool (c == 10 || (c == 13 && first cs == 10))) [
      | inl feed ↦
          let ends : (c == 10 || c == 13) ≡ true = grind (arith, nat_tests) in
          rw (feed, ends) (skips d false cs)
      | inr more ↦
          elim (cases_Bool (is_non_eol c)) [
            | inl text ↦
                let ends : (c == 10 || c == 13) ≡ false = grind (arith, nat_tests) in
                rw (more, text, ends) (skips d true cs)
            | inr stop ↦
                let stuck : is_stuck (c ∷ cs) ≡ true = grind (arith, nat_tests) in
                rw (more, stop) (inr (refl, stuck))
          ]
    ]

pub blank-stays : (d : ℕ) (text : List ℕ) → is_stuck (skip_blank text) ≡ false → behind (Plain d) text ≡ behind (Plain d) (skip_blank text)
blank-stays d text free =
    elim (skips d false text) [
      | inl same ↦ same
      | inr (same, stuck) ↦ absurd (true≢false (sym stuck ∙ free))
    ]

-- what was read after a prefix
pub prepend-rest : (front : List ℕ) (r : Read (List ℕ)) (x rest : List ℕ) → prepend front r ≡ Some (x, rest) → (y : List ℕ) × (r ≡ Some (y, rest))
prepend-rest front None x rest h = absurd (none-some _ h)
prepend-rest front (Some p) x rest h = (p.0, ap (λ (t : List ℕ × List ℕ). Some (p.0, t.1)) (same_Some (front ++ p.0, p.1) (x, rest) h))

pub rest-same : {A : Type 0} (r s : A × List ℕ) → Some r ≡ Some s → r.1 ≡ s.1
rest-same {A = A} r s h = ap (λ (t : A × List ℕ). t.1) (same_Some r s h)

abbrev pub is_quote : ℕ → Bool
is_quote q = q == 34 || q == 39

pub body-none : (q n : ℕ) → is_quote q ≡ true → body q false n [] ≡ None
unfolding body special
body-none q zero quote = refl
body-none q (suc n) quote =
    let plain : is_plain q false 0 ≡ false = grind (arith, nat_tests) in
    let other : (0 == q) ≡ false = grind (arith, nat_tests) in
    rw (plain, other)

-- hex digits within a string
pub digits-stay : (q d n : ℕ) (text : List ℕ) → is_quote q ≡ true → list_all (λ c. is_digit c 16) (take n text) ≡ true → behind (Text q d) text ≡ behind (Text q d) (drop n text)
digits-stay q d zero text quote all = refl
digits-stay q d (suc n) [] quote all = refl
digits-stay q d (suc n) (c ∷ cs) quote all =
    let (here, more) = and_parts (is_digit c 16) (list_all (λ c. is_digit c 16) (take n cs)) all in
    let other : (c == q) ≡ false = grind (arith, nat_tests) in
    let backslash : (c == 92) ≡ false = grind (arith, nat_tests) in
    rw (other, backslash) (digits-stay q d n cs quote more)

-- what follows a backslash
pub escape-leads : (q d : ℕ) (text : List ℕ) (e : ℕ) (rest : List ℕ) → is_quote q ≡ true → escape_char text ≡ Some (e, rest) → behind (Escaped q d) text ≡ behind (Text q d) rest
unfolding escape_char hex_escape
escape-leads q d [] e rest quote h = absurd (none-some _ h)
escape-leads q d (c ∷ cs) e rest quote h =
    elim (cases_Bool (nat_lt 0 (hex_len c))) [
      | inl hex ↦ from-hex (rw hex at h)
      | inr simple ↦ from-letter (simple_escape c) (rw simple at h)
    ]
  where
    from-hex : hex_escape (hex_len c) cs ≡ Some (e, rest) → behind (Text q d) cs ≡ behind (Text q d) rest
    from-hex h =
        let fits = nat_le (hex_len c) (length cs) in
        let all = list_all (λ c. is_digit c 16) (take (hex_len c) cs) in
        let value = digits_value 16 (take (hex_len c) cs) in
        elim (cases_Bool ((fits && all) && is_scalar value)) [
          | inl good ↦
              let digits = (and_parts fits all (and_parts (fits && all) (is_scalar value) good).0).1 in
              let read : Some (value, drop (hex_len c) cs) ≡ Some (e, rest) = rw good at h in
              digits-stay q d (hex_len c) cs quote digits ∙ ap (behind (Text q d)) (rest-same (value, drop (hex_len c) cs) (e, rest) read)
          | inr bad ↦ absurd (none-some _ (rw bad at h))
        ]

    from-letter : (o : Option ℕ) → option_map {U = ℕ × List ℕ} (λ x. (x, cs)) o ≡ Some (e, rest) → behind (Text q d) cs ≡ behind (Text q d) rest
    from-letter None h = absurd (none-some _ h)
    from-letter (Some x) h = ap (behind (Text q d)) (rest-same (x, cs) (e, rest) h)

-- the rest of a string on one line leads out of it
abbrev pub LeadsOut : ℕ → ℕ → ℕ → List ℕ → Type 0
LeadsOut q d n rest = (text y : List ℕ) → body q false n text ≡ Some (y, rest) → behind (Text q d) text ≡ behind (Plain d) rest

pub at-escape : (q d n : ℕ) (cs x rest : List ℕ) (r : Read ℕ) → LeadsOut q d n rest
    → ((e : ℕ) (more : List ℕ) → r ≡ Some (e, more) → behind (Escaped q d) cs ≡ behind (Text q d) more)
    → option_and_then {U = List ℕ × List ℕ} (λ p. after_piece (body q false n) p.0 p.1) (option_map {U = Option (List ℕ) × List ℕ} (λ p. (Some p.0, p.1)) (option_map {U = List ℕ × List ℕ} (λ p. (encode_utf8 p.0, p.1)) r)) ≡ Some (x, rest)
    → behind (Escaped q d) cs ≡ behind (Plain d) rest
at-escape q d n cs x rest None out leads h = absurd (none-some _ h)
at-escape q d n cs x rest (Some p) out leads h =
    let (y, more) = prepend-rest (encode_utf8 p.0) (body q false n p.1) x rest h in
    leads p.0 p.1 refl ∙ out p.1 y more

pub at-mark : (q d n c : ℕ) (cs x rest : List ℕ) → is_quote q ≡ true → LeadsOut q d n rest → is_plain q false c ≡ false
    → option_and_then {U = List ℕ × List ℕ} (λ p. after_piece (body q false n) p.0 p.1) (special q false (c ∷ cs)) ≡ Some (x, rest) → behind (step (Text q d) c) cs ≡ behind (Plain d) rest
unfolding special escape
at-mark q d n c cs x rest quote out marked h =
    elim (cases_Bool (c == q)) [
      | inl closing ↦ rw closing (ap (behind (Plain d)) (rest-same ([], cs) (x, rest) (rw closing at h)))
      | inr other ↦
          elim (cases_Bool (c == 92)) [
            | inl backslash ↦
                let double : (q == 34) ≡ true = grind (arith, nat_tests) in
                rw (other, backslash, double) (at-escape q d n cs x rest (escape_char cs) out (λ e more is. escape-leads q d cs e more quote is) (rw (other, backslash) at h))
            | inr none ↦ absurd (none-some _ (rw (other, none) at h))
          ]
    ]

-- a string on one line, after its opening quote
pub in-text : (q d n : ℕ) (text x rest : List ℕ) → is_quote q ≡ true → body q false n text ≡ Some (x, rest) → behind (Text q d) text ≡ behind (Plain d) rest
unfolding body
in-text q d zero text x rest quote h = absurd (none-some _ h)
in-text q d (suc n) [] x rest quote h = absurd (none-some _ (sym (body-none q (suc n) quote) ∙ h))
in-text q d (suc n) (c ∷ cs) x rest quote h =
    elim (cases_Bool (is_plain q false c)) [
      | inl plain ↦
          let other : (c == q) ≡ false = grind (arith, nat_tests) in
          let calm : (c == 92 && q == 34) ≡ false = grind (arith, nat_tests) in
          let (y, more) = prepend-rest (c ∷ []) (body q false n cs) x rest (rw plain at h) in
          rw (other, calm) (in-text q d n cs y rest quote more)
      | inr marked ↦ at-mark q d n c cs x rest quote (λ text y more. in-text q d n text y rest quote more) marked (rw marked at h)
    ]

-- after an opening quote
pub opened : (q d c : ℕ) (cs : List ℕ) → (behind (Opened q d) (c ∷ cs) ≡ behind (Text q d) (c ∷ cs)) ⊎ (behind (Opened q d) (c ∷ cs) ≡ Lost)
opened q d c cs =
    elim (cases_Bool (c == q)) [
      | inl same ↦ inr (rw same (lost cs))
      | inr other ↦ inl (rw other)
    ]

pub one_line-leads : (d : ℕ) (text x rest : List ℕ) → starts_string text ≡ true → one_line text ≡ Some (x, rest) → Leads (Plain d) text (Plain d) rest
unfolding one_line
one_line-leads d [] x rest starts h = absurd (false≢true starts)
one_line-leads d (q ∷ []) x rest starts h = absurd (none-some _ (sym (body-none q 1 starts) ∙ h))
one_line-leads d (q ∷ c ∷ cs) x rest starts h =
    let inside = in-text q d (suc (suc (length cs))) (c ∷ cs) x rest starts h in
    let front : behind (Plain d) (q ∷ c ∷ cs) ≡ behind (Opened q d) (c ∷ cs) = rw starts in
    elim (opened q d c cs) [
      | inl same ↦ inl (front ∙ same ∙ inside)
      | inr gone ↦ inr (front ∙ gone)
    ]

pub quoted-leads : (d : ℕ) (text x rest : List ℕ) → starts_string text ≡ true → quoted text ≡ Some (x, rest) → Leads (Plain d) text (Plain d) rest
unfolding quoted
quoted-leads d [] x rest starts h = absurd (false≢true starts)
quoted-leads d (q ∷ []) x rest starts h =
    let single : (0 == q && 0 == q) ≡ false = grind (arith, nat_tests) in
    one_line-leads d (q ∷ []) x rest starts (rw single at h)
quoted-leads d (q ∷ c ∷ cs) x rest starts h =
    elim (cases_Bool (c == q)) [
      | inl same ↦ inr (rw (starts, same) (lost cs))
      | inr other ↦ one_line-leads d (q ∷ c ∷ cs) x rest starts (rw other at h)
    ]

-- a boolean, a number or a date
pub word-stays : (d : ℕ) (text : List ℕ) → behind (Plain d) text ≡ behind (Plain d) (drop (word_len text) text)
unfolding word_len
word-stays d text =
    let n = prefix_len is_word text in
    let front = run-stays is_word word-calm d text in
    elim (cases_Bool (get_or text n 0 == 32 && is_ascii_digit (get_or text (n + 1) 0))) [
      | inl joins ↦
          let m = prefix_len is_word (drop (n + 1) text) in
          let byte : is_calm (get_or text n 0) ≡ true = grind (arith, nat_tests) in
          let calm : is_calm (first (drop n text)) ≡ true = rw (get_or-drop n text 0 0, add-zero) byte in
          let space : behind (Plain d) (drop n text) ≡ behind (Plain d) (drop (n + 1) text) = calm-drop d (drop n text) calm ∙ ap (behind (Plain d)) (drop-drop 1 n text) in
          let back = run-stays is_word word-calm d (drop (n + 1) text) in
          let whole : drop m (drop (n + 1) text) ≡ drop (n + 1 + m) text = drop-drop m (n + 1) text in
          rw joins (front ∙ space ∙ back ∙ ap (behind (Plain d)) whole)
      | inr none ↦ rw none front
    ]

pub unquoted-leads : (d : ℕ) (text rest : List ℕ) → rest_of_read (unquoted text) ≡ Some rest → behind (Plain d) text ≡ behind (Plain d) rest
unfolding unquoted
unquoted-leads d text rest h =
    elim (cases_Bool (word_len text == 0)) [
      | inl none ↦ absurd (none-some _ (rw none at h))
      | inr some ↦ word-stays d text ∙ ap (behind (Plain d)) (of (word_value (take (word_len text) text)) (rw some at h))
    ]
  where
    of : (o : Option Scalar) → option_map {U = List ℕ} (λ p. p.1) (option_map {U = Scalar × List ℕ} (λ x. (x, drop (word_len text) text)) o) ≡ Some rest → drop (word_len text) text ≡ rest
    of None h = absurd (none-some _ h)
    of (Some x) h = same_Some _ _ h

-- one part of a key
pub simple-leads : (d : ℕ) (text x rest : List ℕ) → simple_key text ≡ Some (x, rest) → Leads (Plain d) text (Plain d) rest
unfolding simple_key
simple-leads d text x rest h =
    elim (cases_Bool (starts_string text)) [
      | inl starts ↦ one_line-leads d text x rest starts (rw starts at h)
      | inr other ↦
          elim (cases_Bool (is_bare (first text))) [
            | inl bare ↦ inl (run-stays is_bare bare-calm d text ∙ ap (behind (Plain d)) (rest-same (split_while is_bare text) (x, rest) (rw (other, bare) at h)))
            | inr none ↦ absurd (none-some _ (rw (other, none) at h))
          ]
    ]

-- a key of several parts
pub key-turn : (d n : ℕ) (path : List (List ℕ)) (text : List ℕ) (k : Key) (rest : List ℕ) (r : Read (List ℕ))
    → ((path : List (List ℕ)) (text : List ℕ) (k : Key) (rest : List ℕ) → key_after n path text ≡ Some (k, rest) → Leads (Plain d) text (Plain d) rest)
    → ((x more : List ℕ) → r ≡ Some (x, more) → Leads (Plain d) text (Plain d) more)
    → option_and_then {U = Key × List ℕ} (λ part. cond (first (skip_ws part.1) == 46) (key_after n (path ++ part.0 ∷ []) (skip_ws (drop 1 (skip_ws part.1)))) (Some ((path, part.0), skip_ws part.1))) r ≡ Some (k, rest)
    → Leads (Plain d) text (Plain d) rest
key-turn d n path text k rest None more-leads part-leads h = absurd (none-some _ h)
key-turn d n path text k rest (Some p) more-leads part-leads h =
    let part = part-leads p.0 p.1 refl in
    let space : Leads (Plain d) p.1 (Plain d) (skip_ws p.1) = inl (ws-stays d p.1) in
    let here = leads-then (Plain d) (Plain d) (Plain d) text p.1 (skip_ws p.1) part space in
    elim (cases_Bool (first (skip_ws p.1) == 46)) [
      | inl dot ↦
          let calm : is_calm (first (skip_ws p.1)) ≡ true = grind (arith, nat_tests) in
          let next : Leads (Plain d) (skip_ws p.1) (Plain d) (skip_ws (drop 1 (skip_ws p.1))) = inl (calm-drop d (skip_ws p.1) calm ∙ ws-stays d (drop 1 (skip_ws p.1))) in
          let later = more-leads (path ++ p.0 ∷ []) (skip_ws (drop 1 (skip_ws p.1))) k rest (rw dot at h) in
          leads-then (Plain d) (Plain d) (Plain d) text (skip_ws p.1) rest here (leads-then (Plain d) (Plain d) (Plain d) (skip_ws p.1) (skip_ws (drop 1 (skip_ws p.1))) rest next later)
      | inr last ↦
          let same : skip_ws p.1 ≡ rest = rest-same ((path, p.0), skip_ws p.1) (k, rest) (rw last at h) in
          subst (λ (t : List ℕ). Leads (Plain d) text (Plain d) t) same here
    ]

pub key_after-leads : (n d : ℕ) (path : List (List ℕ)) (text : List ℕ) (k : Key) (rest : List ℕ) → key_after n path text ≡ Some (k, rest) → Leads (Plain d) text (Plain d) rest
unfolding key_after
key_after-leads zero d path text k rest h = absurd (none-some _ h)
key_after-leads (suc n) d path text k rest h =
    key-turn d n path text k rest (simple_key text) (λ path text k rest. key_after-leads n d path text k rest) (λ x more. simple-leads d text x more) h

pub key-leads : (d : ℕ) (text : List ℕ) (k : Key) (rest : List ℕ) → key text ≡ Some (k, rest) → Leads (Plain d) text (Plain d) rest
key-leads d text k rest h = key_after-leads 80 d [] text k rest h
