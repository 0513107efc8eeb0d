-- The scanner ends a text that parses alone in a state where a document may end.
use Rattle.std.proofs.Common.{◌≡◌, ℕ, zero, suc, ◌+◌, ◌-◌, ◌<◌, Bool, true, false, cond, ◌&&◌, ◌||◌, ◌==◌, ◌⊎◌, List, [], ◌∷◌, ◌++◌, length, take, drop, get_or, Option, Some, None, option_map, option_and_then, refl, sym, ap, ◌∙◌, subst, inl, inr, arith, get_or-drop}
use Rattle.std.specs.Prelude.{nat_lt}
use Rattle.std.proofs.lemmas.Bool.{cases_Bool, cases_lt, false≢true, true≢false}
use Rattle.std.proofs.lemmas.Bool.Decides.{nat_tests}
use Rattle.std.proofs.lemmas.List.{drop-drop}
use Rattle.std.proofs.Math.Seq.{take-suc}
use Rattle.std.proofs.lemmas.Option.{none-some, same_Some}
use Rattle.toml_parser.specs.Lexical.{first, is_ws, is_non_eol, skip_ws, skip_blank, skip_from}
use Rattle.toml_parser.specs.Strings.{Key, key}
use Rattle.toml.specs.Data.{Data, Members}
use Rattle.toml.specs.Tables.{no_nodes, close, key_value, std_table, array_table, Document, Expression, define}
use Rattle.toml.specs.Parse.{after_byte, val, keyval, header_key, expression, ends_line, line, lines, skip_bom, parse_document}
use Rattle.hack_manifest.specs.declared.places.ScanState.{ScanState}
use Rattle.hack_manifest.specs.declared.places.ScanState.TheVariants.{Start, Remark, Plain, Comment, Opened, Text, Escaped, Lost}
use Rattle.hack_manifest.specs.LineRuns.{stands, IsRun}
use Rattle.hack_manifest.specs.Internal.{has_keys, behind}
use Rattle.hack_manifest.specs.Places.{start_step, deeper, plain_step, text_step, step, may_stand}
use Rattle.hack_manifest.proofs.TextLeads.{Leads, leads-then, is_calm, calm-step, ws-stays, calm-drop, close-drop, is_stuck, at_place, skips, blank-stays, key-leads}
use Rattle.hack_manifest.proofs.ValueLeads.{and-then, map-some, read_map-rest, byte-some, open-drop, keyval-leads, val-leads}

-- the key of a header and its closing bracket
header-leads : (d : ℕ) (text : List ℕ) (k : Key) (rest : List ℕ) → header_key text ≡ Some (k, rest) → Leads (Plain (d + 1)) text (Plain d) rest
unfolding header_key
header-leads d text k rest h =
    let (l, read, more) = and-then (key (skip_ws text)) (λ l. option_map (λ t. (l.0, t)) (after_byte 93 l.1)) (k, rest) h in
    let (t, byte, is) = map-some (λ (t : List ℕ). (l.0, t)) (after_byte 93 l.1) (k, rest) more in
    let (here, dropped) = byte-some 93 l.1 t byte in
    let bracket : (first l.1 == 93 || first l.1 == 125) ≡ true = rw here in
    let last : t ≡ rest = ap (λ (p : Key × List ℕ). p.1) is in
    let back : Leads (Plain (d + 1)) l.1 (Plain d) rest = inl (close-drop d l.1 bracket ∙ ap (behind (Plain d)) (dropped ∙ last)) in
    leads-then (Plain (d + 1)) (Plain (d + 1)) (Plain d) text (skip_ws text) rest (inl (ws-stays (d + 1) text))
    (leads-then (Plain (d + 1)) (Plain (d + 1)) (Plain d) (skip_ws text) l.1 rest (key-leads (d + 1) (skip_ws text) l.0 l.1 read) back)

-- a header of an array of tables
double-leads : (text : List ℕ) (e : Expression) (rest : List ℕ) → (first text == 91) ≡ true → (get_or text 1 0 == 91) ≡ true
    → option_and_then {U = Expression × List ℕ} (λ (k : Key × List ℕ). option_map (λ rest. ((k.0, array_table), rest)) (after_byte 93 k.1)) (header_key (drop 2 text)) ≡ Some (e, rest)
    → Leads (Plain 0) text (Plain 0) rest
double-leads text e rest one two h =
    let (k, read, more) = and-then (header_key (drop 2 text)) (λ (k : Key × List ℕ). option_map (λ rest. ((k.0, array_table), rest)) (after_byte 93 k.1)) (e, rest) h in
    let (t, byte, is) = map-some (λ (t : List ℕ). ((k.0, array_table), t)) (after_byte 93 k.1) (e, rest) more in
    let (here, dropped) = byte-some 93 k.1 t byte in
    let opens : (first text == 91 || first text == 123) ≡ true = rw one in
    let second : first (drop 1 text) ≡ get_or text 1 0 = get_or-drop 1 text 0 0 in
    let again : (first (drop 1 text) == 91 || first (drop 1 text) == 123) ≡ true = rw (second, two) in
    let bracket : (first k.1 == 93 || first k.1 == 125) ≡ true = rw here in
    let last : t ≡ rest = ap (λ (p : Expression × List ℕ). p.1) is in
    let back : Leads (Plain 1) k.1 (Plain 0) rest = inl (close-drop 0 k.1 bracket ∙ ap (behind (Plain 0)) (dropped ∙ last)) in
    let both : Leads (Plain 1) (drop 1 text) (Plain 2) (drop 2 text) = subst (λ (t : List ℕ). Leads (Plain 1) (drop 1 text) (Plain 2) t) (drop-drop 1 1 text) (open-drop 1 (drop 1 text) again) in
    leads-then (Plain 0) (Plain 1) (Plain 0) text (drop 1 text) rest (open-drop 0 text opens)
    (leads-then (Plain 1) (Plain 2) (Plain 0) (drop 1 text) (drop 2 text) rest both
    (leads-then (Plain 2) (Plain 1) (Plain 0) (drop 2 text) k.1 rest (header-leads 1 (drop 2 text) k.0 k.1 read) back))

-- a header or a pair, neither of which begins in a stuck text
expression-leads : (text : List ℕ) (e : Expression) (rest : List ℕ) → expression text ≡ Some (e, rest) → Leads (Plain 0) text (Plain 0) rest × (is_stuck text ≡ false)
unfolding expression
expression-leads text e rest h =
    elim (cases_Bool (first text == 91)) [
      | inl one ↦
          let free : is_stuck text ≡ false = grind (arith, nat_tests) in
          elim (cases_Bool (get_or text 1 0 == 91)) [
            | inl two ↦ (double-leads text e rest one two (rw (one, two) at h), free)
            | inr other ↦
                let (k, read) = read_map-rest (λ (k : Key). (k, std_table)) (header_key (drop 1 text)) e rest (rw (one, other) at h) in
                let opens : (first text == 91 || first text == 123) ≡ true = rw one in
                (leads-then (Plain 0) (Plain 1) (Plain 0) text (drop 1 text) rest (open-drop 0 text opens) (header-leads 0 (drop 1 text) k rest read), free)
          ]
      | inr none ↦
          let (p, read) = read_map-rest (λ (p : Key × Data). (p.0, key_value p.1)) (keyval (val 80) text) e rest (rw none at h) in
          keyval-leads (val 80) (val-leads 80) 0 text p rest read
    ]

line-expression : (text : List ℕ) (e : Expression × List ℕ) → line text ≡ Some e → expression text ≡ Some e
unfolding line
line-expression text e h =
    let (x, read, more) = and-then (expression text) (λ (x : Expression × List ℕ). cond (ends_line (skip_ws x.1)) (Some x) None) e h in
    elim (cases_Bool (ends_line (skip_ws x.1))) [
      | inl ends ↦ read ∙ rw ends at more
      | inr other ↦ absurd (none-some _ (rw other at more))
    ]

-- a document may end after this text
abbrev MayEnd : List ℕ → Type 0
MayEnd text = may_stand (behind (Plain 0) text) ≡ true

may-end : (text rest : List ℕ) → Leads (Plain 0) text (Plain 0) rest → MayEnd rest → MayEnd text
may-end text rest (inl same) ends = rw same ends
may-end text rest (inr gone) ends = rw gone

nil-from : (xs : List ℕ) → (length xs == 0) ≡ true → xs ≡ []
nil-from [] h = refl
nil-from (c ∷ cs) h = absurd (grind (arith, nat_tests))

lines-end : (n : ℕ) (doc : Document) (text : List ℕ) (last : Document) → lines n doc text ≡ Some last → MayEnd text
unfolding lines
lines-end zero doc text last h = absurd (none-some _ h)
lines-end (suc n) doc text last h =
    let start = skip_blank text in
    elim (cases_Bool (length start == 0)) [
      | inl none ↦
          let empty : start ≡ [] = nil-from start none in
          elim (skips 0 false text) [
            | inl same ↦ rw (same, empty)
            | inr (same, stuck) ↦ rw (same, empty)
          ]
      | inr some ↦
          let (e, read, more) = and-then (line start) (λ e. option_and_then (λ next. lines n next e.1) (define doc e.0)) last (rw some at h) in
          let (next, made, later) = and-then (define doc e.0) (λ next. lines n next e.1) last more in
          let (leads, free) = expression-leads start e.0 e.1 (line-expression start e read) in
          may-end text start (inl (blank-stays 0 text free)) (may-end start e.1 leads (lines-end n next e.1 last later))
    ]

-- a byte order mark doesn't change the state
bom-stays : (text : List ℕ) → behind (Plain 0) text ≡ behind (Plain 0) (skip_bom text)
unfolding skip_bom
bom-stays text =
    elim (cases_Bool ((first text == 239 && get_or text 1 0 == 187) && get_or text 2 0 == 191)) [
      | inl mark ↦
          let one : is_calm (first text) ≡ true = grind (arith, nat_tests) in
          let second : is_calm (get_or text 1 0) ≡ true = grind (arith, nat_tests) in
          let third : is_calm (get_or text 2 0) ≡ true = grind (arith, nat_tests) in
          let two : is_calm (first (drop 1 text)) ≡ true = ap is_calm (get_or-drop 1 text 0 0) ∙ second in
          let three : is_calm (first (drop 2 text)) ≡ true = ap is_calm (get_or-drop 2 text 0 0) ∙ third in
          rw mark
          (calm-drop 0 text one
          ∙ calm-drop 0 (drop 1 text) two ∙ ap (behind (Plain 0)) (drop-drop 1 1 text)
          ∙ calm-drop 0 (drop 2 text) three ∙ ap (behind (Plain 0)) (drop-drop 1 2 text))
      | inr none ↦ rw none
    ]

keys-some : (o : Option Members) → has_keys o ≡ true → (ms : Members) × (o ≡ Some ms)
keys-some None h = absurd (false≢true h)
keys-some (Some ms) h = (ms, refl)

-- after a text that parses alone a document may end
stands-ends : (text : List ℕ) → stands text ≡ true → MayEnd text
unfolding parse_document
stands-ends text h =
    let (ms, is) = keys-some (parse_document text) h in
    let (doc, read, made) = map-some (λ (doc : Document). close doc.0) (lines (suc (length text)) (no_nodes, []) (skip_bom text)) ms is in
    may-end text (skip_bom text) (inl (bom-stays text)) (lines-end (suc (length text)) (no_nodes, []) (skip_bom text) doc read)

-- where no document may end after a text, it doesn't parse alone
ends-not : (text : List ℕ) → may_stand (behind (Plain 0) text) ≡ false → stands text ≡ false
ends-not text h =
    elim (cases_Bool (stands text)) [
      | inl stands ↦ absurd (true≢false (sym (stands-ends text stands) ∙ h))
      | inr none ↦ none
    ]

-- ---- blank lines and comments at the start

abbrev is_idle : ScanState → Bool
is_idle Start = true
is_idle Remark = true
is_idle _ = false

abbrev idle_place : Bool → ScanState
idle_place inside = cond inside Remark Start

busy-cond : (b : Bool) (p q : ScanState) → is_idle p ≡ false → is_idle q ≡ false → is_idle (cond b p q) ≡ false
busy-cond true p q one two = one
busy-cond false p q one two = two

busy-plain : (d c : ℕ) → is_idle (plain_step d c) ≡ false
busy-plain d c =
    busy-cond (c == 34 || c == 39) (Opened c d) _ refl
    (busy-cond (c == 35) (Comment d) _ refl
    (busy-cond (c == 91 || c == 123) (deeper d) _ (busy-cond (nat_lt d 1000) (Plain (d + 1)) Lost refl refl)
    (busy-cond (c == 93 || c == 125) (Plain (d - 1)) (Plain d) refl refl)))

busy-text : (q d c : ℕ) → is_idle (text_step q d c) ≡ false
busy-text q d c = busy-cond (c == 92 && q == 34) (Escaped q d) (Text q d) refl refl

busy-step : (p : ScanState) (c : ℕ) → is_idle p ≡ false → is_idle (step p c) ≡ false
busy-step Start c h = absurd (true≢false h)
busy-step Remark c h = absurd (true≢false h)
busy-step (Plain d) c h = busy-plain d c
busy-step (Comment d) c h = busy-cond (c == 10 || c == 13) (Plain d) (Comment d) refl refl
busy-step (Opened q d) c h = busy-cond (c == q) Lost (text_step q d c) refl (busy-text q d c)
busy-step (Text q d) c h = busy-cond (c == q) (Plain d) (text_step q d c) refl (busy-text q d c)
busy-step (Escaped q d) c h = refl
busy-step Lost c h = refl

busy-stays : (p : ScanState) (text : List ℕ) → is_idle p ≡ false → is_idle (behind p text) ≡ false
busy-stays p [] h = h
busy-stays p (c ∷ cs) h = busy-stays (step p c) cs (busy-step p c h)

-- the scanner ends as if it started in plain text, or is still idle
same-or-idle : (inside : Bool) (text : List ℕ) → (behind (idle_place inside) text ≡ behind (at_place inside 0) text) ⊎ (is_idle (behind (idle_place inside) text) ≡ true)
same-or-idle false [] = inr refl
same-or-idle true [] = inr refl
same-or-idle false (c ∷ cs) =
    elim (cases_Bool (c == 35)) [
      | inl hash ↦
          let quote : (c == 34 || c == 39) ≡ false = grind (arith, nat_tests) in
          rw (hash, quote) (same-or-idle true cs)
      | inr other ↦
          elim (cases_Bool ((c == 10 || c == 13) || (c == 32 || c == 9))) [
            | inl blank ↦
                let calm : is_calm c ≡ true = grind (arith, nat_tests) in
                rw (calm-step 0 c calm, other, blank) (same-or-idle false cs)
            | inr some ↦
                let busy : start_step c ≡ plain_step 0 c = rw (other, some) in
                inl (ap (λ p. behind p cs) busy)
          ]
    ]
same-or-idle true (c ∷ cs) =
    elim (cases_Bool (c == 10 || c == 13)) [
      | inl feed ↦ rw feed (same-or-idle false cs)
      | inr more ↦ rw more (same-or-idle true cs)
    ]

-- a text that begins with another byte, and leaves the scanner idle, is stuck
idle-stop : (c : ℕ) (cs : List ℕ) → (c == 35) ≡ false → is_ws c ≡ false → is_idle (behind (start_step c) cs) ≡ true → is_stuck (c ∷ cs) ≡ true
idle-stop c cs other text h =
    elim (cases_Bool (c == 10 || c == 13)) [
      | inl feed ↦ grind (arith, nat_tests)
      | inr none ↦
          let some : ((c == 10 || c == 13) || (c == 32 || c == 9)) ≡ false = grind (arith, nat_tests) in
          let busy : start_step c ≡ plain_step 0 c = rw (other, some) in
          let idle : is_idle (behind (plain_step 0 c) cs) ≡ true = ap (λ p. is_idle (behind p cs)) (sym busy) ∙ h in
          absurd (true≢false (sym idle ∙ busy-stays (plain_step 0 c) cs (busy-plain 0 c)))
    ]

-- after blank lines and comments only, nothing begins
idle-skips : (inside : Bool) (text : List ℕ) → is_idle (behind (idle_place inside) text) ≡ true → is_stuck (skip_from true inside text) ≡ true
unfolding skip_from
idle-skips false [] h = refl
idle-skips true [] h = refl
idle-skips false (c ∷ cs) h =
    elim (cases_Bool (c == 10 || (c == 13 && first cs == 10))) [
      | inl feed ↦
          let other : (c == 35) ≡ false = grind (arith, nat_tests) in
          let blank : ((c == 10 || c == 13) || (c == 32 || c == 9)) ≡ true = grind (arith, nat_tests) in
          rw feed (idle-skips false cs (rw (other, blank) at h))
      | inr more ↦
          elim (cases_Bool (is_ws c)) [
            | inl ws ↦
                let other : (c == 35) ≡ false = grind (arith, nat_tests) in
                let blank : ((c == 10 || c == 13) || (c == 32 || c == 9)) ≡ true = grind (arith, nat_tests) in
                rw (more, ws) (idle-skips false cs (rw (other, blank) at h))
            | inr text ↦
                elim (cases_Bool (c == 35)) [
                  | inl hash ↦ rw (more, text, hash) (idle-skips true cs (rw hash at h))
                  | inr stop ↦
                      let stays : skip_from true false (c ∷ cs) ≡ c ∷ cs = rw (more, text, stop) in
                      subst (λ t. is_stuck t ≡ true) (sym stays) (idle-stop c cs stop text h)
                ]
          ]
    ]
idle-skips true (c ∷ cs) h =
    elim (cases_Bool (c == 10 || (c == 13 && first cs == 10))) [
      | inl feed ↦
          let ends : (c == 10 || c == 13) ≡ true = grind (arith, nat_tests) in
          rw feed (idle-skips false cs (rw ends at h))
      | inr more ↦
          elim (cases_Bool (is_non_eol c)) [
            | inl text ↦
                let ends : (c == 10 || c == 13) ≡ false = grind (arith, nat_tests) in
                rw (more, text) (idle-skips true cs (rw ends at h))
            | inr stop ↦
                let stuck : is_stuck (c ∷ cs) ≡ true = grind (arith, nat_tests) in
                rw (more, stop) stuck
          ]
    ]

-- after an idle text nothing is defined
lines-idle : (n : ℕ) (doc : Document) (text : List ℕ) (last : Document) → is_stuck (skip_blank text) ≡ true → lines n doc text ≡ Some last → doc ≡ last
unfolding lines
lines-idle zero doc text last stuck h = absurd (none-some _ h)
lines-idle (suc n) doc text last stuck h =
    let start = skip_blank text in
    elim (cases_Bool (length start == 0)) [
      | inl none ↦ same_Some doc last (rw none at h)
      | inr some ↦
          let (e, read, more) = and-then (line start) (λ e. option_and_then (λ next. lines n next e.1) (define doc e.0)) last (rw some at h) in
          let (leads, free) = expression-leads start e.0 e.1 (line-expression start e read) in
          absurd (true≢false (sym stuck ∙ free))
    ]

idle-bom : (text : List ℕ) → is_idle (behind Start text) ≡ true → skip_bom text ≡ text
unfolding skip_bom
idle-bom [] h = refl
idle-bom (c ∷ cs) h =
    elim (cases_Bool (c == 239)) [
      | inl mark ↦
          let other : (c == 35) ≡ false = grind (arith, nat_tests) in
          let some : ((c == 10 || c == 13) || (c == 32 || c == 9)) ≡ false = grind (arith, nat_tests) in
          let busy : start_step c ≡ plain_step 0 c = rw (other, some) in
          let idle : is_idle (behind (plain_step 0 c) cs) ≡ true = ap (λ p. is_idle (behind p cs)) (sym busy) ∙ h in
          absurd (true≢false (sym idle ∙ busy-stays (plain_step 0 c) cs (busy-plain 0 c)))
      | inr none ↦ rw none
    ]

idle-not : (text : List ℕ) → is_idle (behind Start text) ≡ true → stands text ≡ false
unfolding parse_document
idle-not text h =
    elim (cases_Bool (stands text)) [
      | inl stands ↦
          let (ms, is) = keys-some (parse_document text) stands in
          let (doc, read, made) = map-some (λ (doc : Document). close doc.0) (lines (suc (length text)) (no_nodes, []) (skip_bom text)) ms is in
          let stuck : is_stuck (skip_blank (skip_bom text)) ≡ true = rw (idle-bom text h) (idle-skips false text h) in
          let same : (no_nodes, []) ≡ doc = lines-idle (suc (length text)) (no_nodes, []) (skip_bom text) doc stuck read in
          let none : has_keys (Some ms) ≡ false = ap (λ t. has_keys (Some t)) (sym made) ∙ ap (λ (t : Document). has_keys (Some (close t.0))) (sym same) in
          absurd (true≢false (sym stands ∙ ap has_keys is ∙ none))
      | inr none ↦ none
    ]

-- where no document may end after scanning from the start, the text doesn't parse alone
pub stands-not : (text : List ℕ) → may_stand (behind Start text) ≡ false → stands text ≡ false
stands-not text h =
    elim (same-or-idle false text) [
      | inl same ↦ ends-not text (ap may_stand (sym same) ∙ h)
      | inr idle ↦ idle-not text idle
    ]

behind-last : (p : ScanState) (text : List ℕ) (c : ℕ) → behind p (text ++ c ∷ []) ≡ step (behind p text) c
behind-last p [] c = refl
behind-last p (d ∷ text) c = behind-last (step p d) text c

-- the state after one more byte of a text
pub behind-take : (p : ScanState) (text : List ℕ) (i : ℕ) → i < length text → behind p (take (i + 1) text) ≡ step (behind p (take i text)) (get_or text i 0)
behind-take p text i within =
    let next : i + 1 ≡ suc i = omega arith in
    ap (λ n. behind p (take n text)) next ∙ ap (behind p) (take-suc text i 0 within) ∙ behind-last p (take i text) (get_or text i 0)

-- no run up to the next byte
pub no_run-next : (text : List ℕ) (i : ℕ) → ((m : ℕ) → m < i + 1 → IsRun text m → ⊥) → (IsRun text (i + 1) → ⊥) → (m : ℕ) → m < i + 1 + 1 → IsRun text m → ⊥
no_run-next text i none here m below run =
    elim (cases_lt m (i + 1)) [
      | inl before ↦ none m before run
      | inr at ↦
          let same : m ≡ i + 1 = omega arith in
          here (subst (IsRun text) same run)
    ]
