-- While `toml` reads a value, the scanner's final state stays that of scanning the rest.
use Rattle.std.proofs.Common.{◌≡◌, ℕ, zero, suc, ◌+◌, true, false, ◌||◌, ◌==◌, List, [], ◌∷◌, length, drop, Option, Some, None, option_map, option_and_then, refl, sym, ap, ◌∙◌, inl, inr, arith}
use Rattle.std.specs.Prelude.{nat_lt}
use Rattle.std.proofs.lemmas.Bool.{cases_Bool, false≢true}
use Rattle.std.proofs.lemmas.Bool.Decides.{nat_tests}
use Rattle.std.proofs.lemmas.Option.{none-some, same_Some}
use Rattle.toml_parser.specs.Lexical.{Read, first, is_word, is_bare, skip_ws, skip_blank}
use Rattle.toml_parser.specs.Strings.{Key, key, key_after, simple_key, starts_string, quoted}
use Rattle.toml_parser.specs.Numbers.{word_len, unquoted}
use Rattle.toml.specs.Data.{Data, string, array, table, Items, no_items, push_item, Members}
use Rattle.toml.proofs.Turns.{val_atom}
use Rattle.toml.specs.Tables.{Nodes, no_nodes, close, put}
use Rattle.toml.specs.Parse.{read_map, after_byte, scalar_data, val, atom, items, members, after_element, key_equals, keyval}
use Rattle.hack_manifest.specs.declared.places.ScanState.TheVariants.{Plain}
use Rattle.hack_manifest.specs.Internal.{rest_of_read, behind}
use Rattle.hack_manifest.proofs.TextLeads.{Leads, lost, leads-then, is_calm, ws-stays, calm-drop, close-drop, is_stuck, blank-stays, rest-same, quoted-leads, unquoted-leads, key-leads}

-- two readings in succession
pub and-then : {A B : Type 0} (o : Option A) (f : A → Option B) (y : B) → option_and_then f o ≡ Some y → (x : A) × (o ≡ Some x) × (f x ≡ Some y)
and-then None f y h = absurd (none-some _ h)
and-then (Some x) f y h = (x, refl, h)

pub map-some : {A B : Type 0} (f : A → B) (o : Option A) (y : B) → option_map f o ≡ Some y → (x : A) × (o ≡ Some x) × (f x ≡ y)
map-some f None y h = absurd (none-some _ h)
map-some f (Some x) y h = (x, refl, same_Some (f x) y h)

-- a map over a value that was read keeps the rest
pub read_map-rest : {A B : Type 0} (f : A → B) (r : Read A) (y : B) (rest : List ℕ) → read_map f r ≡ Some (y, rest) → (x : A) × (r ≡ Some (x, rest))
read_map-rest f None y rest h = absurd (none-some _ h)
read_map-rest {B = B} f (Some p) y rest h = (p.0, ap (λ (t : List ℕ). Some (p.0, t)) (rest-same (f p.0, p.1) (y, rest) h))

pub byte-some : (b : ℕ) (text rest : List ℕ) → after_byte b text ≡ Some rest → ((first text == b) ≡ true) × (drop 1 text ≡ rest)
byte-some b text rest h =
    elim (cases_Bool (first text == b)) [
      | inl here ↦ (here, same_Some (drop 1 text) rest (rw here at h))
      | inr other ↦ absurd (none-some _ (rw other at h))
    ]

-- a key and `=`
pub key_equals-leads : (d : ℕ) (text : List ℕ) (k : Key) (rest : List ℕ) → key_equals text ≡ Some (k, rest) → Leads (Plain d) text (Plain d) rest
unfolding key_equals
key_equals-leads d text k rest h =
    let (l, read, more) = and-then (key text) (λ l. option_map (λ t. (l.0, skip_ws t)) (after_byte 61 l.1)) (k, rest) h in
    let (t, byte, is) = map-some (λ (t : List ℕ). (l.0, skip_ws t)) (after_byte 61 l.1) (k, rest) more in
    let (here, dropped) = byte-some 61 l.1 t byte in
    let calm : is_calm (first l.1) ≡ true = grind (arith, nat_tests) in
    let last : skip_ws t ≡ rest = ap (λ (p : Key × List ℕ). p.1) is in
    let back : behind (Plain d) l.1 ≡ behind (Plain d) rest =
    calm-drop d l.1 calm ∙ ap (behind (Plain d)) dropped ∙ ws-stays d t ∙ ap (behind (Plain d)) last in
    leads-then (Plain d) (Plain d) (Plain d) text l.1 rest (key-leads d text l.0 l.1 read) (inl back)

-- a key doesn't begin in a stuck text
pub key-free : (text : List ℕ) (k : Key) (rest : List ℕ) → key text ≡ Some (k, rest) → is_stuck text ≡ false
unfolding key_after simple_key
key-free text k rest h =
    elim (cases_Bool (is_stuck text)) [
      | inl stuck ↦
          let neither : starts_string text ≡ false = grind (arith, nat_tests) in
          let bare : is_bare (first text) ≡ false = grind (arith, nat_tests) in
          absurd (none-some _ (rw (neither, bare) at h))
      | inr free ↦ free
    ]

pub key_equals-free : (text : List ℕ) (k : Key) (rest : List ℕ) → key_equals text ≡ Some (k, rest) → is_stuck text ≡ false
unfolding key_equals
key_equals-free text k rest h =
    let (l, read, more) = and-then (key text) (λ l. option_map (λ t. (l.0, skip_ws t)) (after_byte 61 l.1)) (k, rest) h in
    key-free text l.0 l.1 read

-- a string, a boolean, a number or a date
pub atom-leads : (d : ℕ) (text : List ℕ) (x : Data) (rest : List ℕ) → atom text ≡ Some (x, rest) → Leads (Plain d) text (Plain d) rest
unfolding atom
atom-leads d text x rest h =
    elim (cases_Bool (starts_string text)) [
      | inl starts ↦
          let (s, read) = read_map-rest string (quoted text) x rest (rw starts at h) in
          quoted-leads d text s rest starts read
      | inr other ↦
          let (s, read) = read_map-rest scalar_data (unquoted text) x rest (rw other at h) in
          inl (unquoted-leads d text rest (ap rest_of_read read))
    ]

pub word-none : (text : List ℕ) → is_stuck text ≡ true → word_len text ≡ 0
unfolding word_len
word-none [] stuck = refl
word-none (c ∷ cs) stuck =
    let not_word : is_word c ≡ false = grind (arith, nat_tests) in
    let not_space : (c == 32) ≡ false = grind (arith, nat_tests) in
    rw (not_word, not_space)

pub unquoted-none : (text : List ℕ) → word_len text ≡ 0 → unquoted text ≡ None
unfolding unquoted
unquoted-none text none = rw none

pub atom-none : (text : List ℕ) → starts_string text ≡ false → unquoted text ≡ None → atom text ≡ None
unfolding atom
atom-none text other none = rw (other, none)

pub atom-free : (text : List ℕ) (x : Data) (rest : List ℕ) → atom text ≡ Some (x, rest) → is_stuck text ≡ false
atom-free text x rest h =
    elim (cases_Bool (is_stuck text)) [
      | inl stuck ↦
          let other : starts_string text ≡ false = grind (arith, nat_tests) in
          absurd (none-some _ (sym (atom-none text other (unquoted-none text (word-none text stuck))) ∙ h))
      | inr free ↦ free
    ]

pub val-free : (depth : ℕ) (text : List ℕ) (x : Data) (rest : List ℕ) → val depth text ≡ Some (x, rest) → is_stuck text ≡ false
val-free depth text x rest h =
    elim (cases_Bool (is_stuck text)) [
      | inl stuck ↦
          let a : (first text == 91) ≡ false = grind (arith, nat_tests) in
          let b : (first text == 123) ≡ false = grind (arith, nat_tests) in
          atom-free text x rest (sym (val_atom depth text a b) ∙ h)
      | inr free ↦ free
    ]

-- an opening bracket is read
pub open-drop : (d : ℕ) (text : List ℕ) → (first text == 91 || first text == 123) ≡ true → Leads (Plain d) text (Plain (d + 1)) (drop 1 text)
open-drop d [] h = absurd (false≢true h)
open-drop d (c ∷ cs) h =
    let quote : (c == 34 || c == 39) ≡ false = grind (arith, nat_tests) in
    let hash : (c == 35) ≡ false = grind (arith, nat_tests) in
    elim (cases_Bool (nat_lt d 1000)) [
      | inl room ↦ inl (rw (quote, hash, h, room))
      | inr deep ↦ inr (rw (quote, hash, h, deep) (lost cs))
    ]

-- what follows an element
pub after-leads : (d closing : ℕ) (text next : List ℕ) → (closing == 93 || closing == 125) ≡ true → after_element closing text ≡ Some next → behind (Plain d) text ≡ behind (Plain d) next
unfolding after_element
after-leads d closing text next bracket h =
    let start = skip_blank text in
    elim (cases_Bool (first start == 44)) [
      | inl comma ↦
          let free : is_stuck start ≡ false = grind (arith, nat_tests) in
          let calm : is_calm (first start) ≡ true = grind (arith, nat_tests) in
          blank-stays d text free ∙ calm-drop d start calm ∙ ap (behind (Plain d)) (same_Some (drop 1 start) next (rw comma at h))
      | inr other ↦
          elim (cases_Bool (first start == closing)) [
            | inl ends ↦
                let free : is_stuck start ≡ false = grind (arith, nat_tests) in
                blank-stays d text free ∙ ap (behind (Plain d)) (same_Some start next (rw (other, ends) at h))
            | inr none ↦ absurd (none-some _ (rw (other, none) at h))
          ]
    ]

-- how a reader of values changes the state, and where no value begins
abbrev pub LeadsAll : (List ℕ → Read Data) → Type 0
LeadsAll val = (d : ℕ) (text : List ℕ) (x : Data) (rest : List ℕ) → val text ≡ Some (x, rest) → Leads (Plain d) text (Plain d) rest

abbrev pub IsFree : (List ℕ → Read Data) → Type 0
IsFree val = (text : List ℕ) (x : Data) (rest : List ℕ) → val text ≡ Some (x, rest) → is_stuck text ≡ false

-- the items of an array, and its closing bracket
pub items-lead : (val : List ℕ → Read Data) → LeadsAll val → IsFree val → (n d : ℕ) (found : Items) (text : List ℕ) (all : Items) (rest : List ℕ) → items val n found text ≡ Some (all, rest)
    → Leads (Plain (d + 1)) text (Plain d) rest
unfolding items
items-lead val leads free zero d found text all rest h = absurd (none-some _ h)
items-lead val leads free (suc n) d found text all rest h =
    let start = skip_blank text in
    elim (cases_Bool (first start == 93)) [
      | inl closing ↦
          let calm : is_stuck start ≡ false = grind (arith, nat_tests) in
          let bracket : (first start == 93 || first start == 125) ≡ true = rw closing in
          inl (blank-stays (d + 1) text calm ∙ close-drop d start bracket ∙ ap (behind (Plain d)) (rest-same (found, drop 1 start) (all, rest) (rw closing at h)))
      | inr other ↦
          let (v, read, more) = and-then (val start) (λ v. option_and_then (items val n (push_item found v.0)) (after_element 93 v.1)) (all, rest) (rw other at h) in
          let (next, element, later) = and-then (after_element 93 v.1) (items val n (push_item found v.0)) (all, rest) more in
          let blank : Leads (Plain (d + 1)) text (Plain (d + 1)) start = inl (blank-stays (d + 1) text (free start v.0 v.1 read)) in
          let behind_value : Leads (Plain (d + 1)) v.1 (Plain (d + 1)) next = inl (after-leads (d + 1) 93 v.1 next refl element) in
          leads-then (Plain (d + 1)) (Plain (d + 1)) (Plain d) text start rest blank
          (leads-then (Plain (d + 1)) (Plain (d + 1)) (Plain d) start v.1 rest (leads (d + 1) start v.0 v.1 read)
          (leads-then (Plain (d + 1)) (Plain (d + 1)) (Plain d) v.1 next rest behind_value (items-lead val leads free n d (push_item found v.0) next all rest later)))
    ]

-- a pair
pub keyval-leads : (val : List ℕ → Read Data) → LeadsAll val → (d : ℕ) (text : List ℕ) (e : Key × Data) (rest : List ℕ) → keyval val text ≡ Some (e, rest)
    → Leads (Plain d) text (Plain d) rest × (is_stuck text ≡ false)
keyval-leads val leads d text e rest h =
    let (k, front, more) = and-then (key_equals text) (λ k. read_map (λ d. (k.0, d)) (val k.1)) (e, rest) h in
    let (x, read) = read_map-rest (λ (d : Data). (k.0, d)) (val k.1) e rest more in
    (leads-then (Plain d) (Plain d) (Plain d) text k.1 rest (key_equals-leads d text k.0 k.1 front) (leads d k.1 x rest read), key_equals-free text k.0 k.1 front)

-- the pairs of an inline table, and its closing bracket
pub members-lead : (val : List ℕ → Read Data) → LeadsAll val → (n d : ℕ) (found : Nodes) (text : List ℕ) (all : Members) (rest : List ℕ) → members val n found text ≡ Some (all, rest)
    → Leads (Plain (d + 1)) text (Plain d) rest
unfolding members
members-lead val leads zero d found text all rest h = absurd (none-some _ h)
members-lead val leads (suc n) d found text all rest h =
    let start = skip_blank text in
    elim (cases_Bool (first start == 125)) [
      | inl closing ↦
          let calm : is_stuck start ≡ false = grind (arith, nat_tests) in
          let bracket : (first start == 93 || first start == 125) ≡ true = grind (arith, nat_tests) in
          inl (blank-stays (d + 1) text calm ∙ close-drop d start bracket ∙ ap (behind (Plain d)) (rest-same (close found, drop 1 start) (all, rest) (rw closing at h)))
      | inr other ↦
          let (e, read, more) = and-then (keyval val start) (λ e. option_and_then (λ now. option_and_then (members val n now) (after_element 125 e.1)) (put e.0.0 e.0.1 found)) (all, rest) (rw other at h) in
          let (now, made, much) = and-then (put e.0.0 e.0.1 found) (λ now. option_and_then (members val n now) (after_element 125 e.1)) (all, rest) more in
          let (next, element, later) = and-then (after_element 125 e.1) (members val n now) (all, rest) much in
          let (pair, calm) = keyval-leads val leads (d + 1) start e.0 e.1 read in
          let blank : Leads (Plain (d + 1)) text (Plain (d + 1)) start = inl (blank-stays (d + 1) text calm) in
          let behind_value : Leads (Plain (d + 1)) e.1 (Plain (d + 1)) next = inl (after-leads (d + 1) 125 e.1 next refl element) in
          leads-then (Plain (d + 1)) (Plain (d + 1)) (Plain d) text start rest blank
          (leads-then (Plain (d + 1)) (Plain (d + 1)) (Plain d) start e.1 rest pair
          (leads-then (Plain (d + 1)) (Plain (d + 1)) (Plain d) e.1 next rest behind_value (members-lead val leads n d now next all rest later)))
    ]

-- any value
pub val-leads : (depth : ℕ) → LeadsAll (val depth)
unfolding val
val-leads zero d text x rest h = atom-leads d text x rest h
val-leads (suc depth) d text x rest h =
    elim (cases_Bool (first text == 91)) [
      | inl bracket ↦
          let (all, read) = read_map-rest array (items (val depth) (length text) no_items (drop 1 text)) x rest (rw bracket at h) in
          let opens : (first text == 91 || first text == 123) ≡ true = rw bracket in
          leads-then (Plain d) (Plain (d + 1)) (Plain d) text (drop 1 text) rest (open-drop d text opens)
          (items-lead (val depth) (val-leads depth) (val-free depth) (length text) d no_items (drop 1 text) all rest read)
      | inr other ↦
          elim (cases_Bool (first text == 123)) [
            | inl brace ↦
                let (all, read) = read_map-rest table (members (val depth) (length text) no_nodes (drop 1 text)) x rest (rw (other, brace) at h) in
                let opens : (first text == 91 || first text == 123) ≡ true = rw (other, brace) in
                leads-then (Plain d) (Plain (d + 1)) (Plain d) text (drop 1 text) rest (open-drop d text opens)
                (members-lead (val depth) (val-leads depth) (length text) d no_nodes (drop 1 text) all rest read)
            | inr none ↦ atom-leads d text x rest (rw (other, none) at h)
          ]
    ]
