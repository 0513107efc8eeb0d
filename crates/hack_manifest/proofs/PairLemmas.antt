-- A document of one pair, and a key followed by `=` and a number.
use Rattle.std.proofs.Common.{◌≡◌, ℕ, suc, ◌-◌, ◌<◌, ◌≤◌, true, false, cond, ◌&&◌, ◌||◌, ◌==◌, List, [], ◌∷◌, ◌++◌, pos, length, drop, get_or, Option, Some, None, option_map, option_and_then, refl, sym, ap, ◌∙◌, inl, inr, arith, length-drop}
use Rattle.std.specs.Option.{IfSome}
use Rattle.std.proofs.lemmas.Bool.{cases_Bool, false≢true, and_parts}
use Rattle.std.proofs.lemmas.Bool.Decides.{nat_tests}
use Rattle.std.proofs.lemmas.Option.{none-some, same_Some}
use Rattle.toml_parser.specs.Lexical.{Read, first, is_bare, split_while, skip_ws, skip_blank}
use Rattle.toml_parser.specs.Strings.{is_plain, special, quoted, one_line, Key, key, key_after, simple_key, starts_string}
use Rattle.toml_parser.proofs.StringsLemmas.{body_run}
use Rattle.std.specs.List.{prefix_len}
use Rattle.toml.specs.Data.{Data, integer, array, Items, no_items, push_item, Members, no_members, member}
use Rattle.toml.specs.Tables.{Nodes, no_nodes, node, value, open_table, dotted, close, key_value, along_dots, along_header, at_key, define}
use Rattle.toml.specs.Parse.{atom, val, items, after_element, key_equals, expression, ends_line, line, skip_bom, parse_document}
use Rattle.toml.proofs.OnLiterals.{toml_on_literals}
use Rattle.toml.proofs.Blanks.{skip_within}
use Rattle.toml.proofs.Turns.{keyval_ok, lines_end, lines_more, document_some, items_end, items_more, val_atom, val_array}
use Rattle.hack_base.specs.Names.{Name}
use Rattle.hack_manifest.specs.LineRuns.{stands, chain, chain_of_data, chain_at}
use Rattle.hack_manifest.specs.Internal.{has_keys, rest_of_read, IsBehindItems, is_over}

-- nodes in which a path leads to data
abbrev pub LeadsTo : Nodes → List Name → Name → Data → Type 0
LeadsTo ns path last d = chain (close ns) ≡ path ++ last ∷ chain_of_data d

-- the result of putting a pair into an empty table
pub put-fresh : (path : List Name) (last : Name) (d : Data) → (ns : Nodes) × (along_dots path (at_key last (key_value d)) no_nodes ≡ Some ns) × LeadsTo ns path last d
unfolding along_dots at_key
put-fresh [] last d = (node last (value d) no_nodes, refl, refl)
put-fresh (k ∷ path) last d =
    let (ns, made, leads) = put-fresh path last d in
    (node k (open_table dotted ns) no_nodes, rw made, ap (λ t. k ∷ t) leads)

-- a key begins with no bracket, and isn't empty
pub key-first : (text : List ℕ) (k : Key) (rest : List ℕ) → key text ≡ Some (k, rest) → (0 < length text) × ((first text == 91) ≡ false)
unfolding key_after simple_key
key-first [] k rest h = absurd (none-some _ h)
key-first (c ∷ cs) k rest h = (
  omega arith,
  elim (cases_Bool (c == 91)) [
    | inl bracket ↦
        let neither : starts_string (c ∷ cs) ≡ false = grind (arith, nat_tests) in
        let bare : is_bare c ≡ false = grind (arith, nat_tests) in
        absurd (none-some _ (rw (neither, bare) at h))
    | inr other ↦ other
  ],
)

key_equals-first : (text : List ℕ) (k : Key) (rest : List ℕ) → key_equals text ≡ Some (k, rest) → (0 < length text) × ((first text == 91) ≡ false)
unfolding key_equals
key_equals-first text k rest h = from (key text) refl h
  where
    from : (r : Read Key) → key text ≡ r → option_and_then {U = Key × List ℕ} (λ k. option_map (λ rest. (k.0, skip_ws rest)) (cond (first k.1 == 61) (Some (drop 1 k.1)) None)) r ≡ Some (k, rest) → (0 < length text) × ((first text == 91) ≡ false)
    from None is h = absurd (none-some _ h)
    from (Some p) is h = key-first text p.0 p.1 is

line-pair : (text at_value rest : List ℕ) (k : Key) (d : Data) → key_equals text ≡ Some (k, at_value) → val 80 at_value ≡ Some (d, rest) → ends_line (skip_ws rest) ≡ true → line text ≡ Some ((k, key_value d), rest)
unfolding line expression
line-pair text at_value rest k d front back over =
    let (some, other) = key_equals-first text k at_value front in
    rw (other, keyval_ok (val 80) text at_value rest k d front back, over)

bom-within : (text : List ℕ) → length (skip_bom text) ≤ length text
unfolding skip_bom
bom-within text =
    elim (cases_Bool ((first text == 239 && get_or text 1 0 == 187) && get_or text 2 0 == 191)) [
      | inl mark ↦ rw mark (omega (arith, length-drop 3 text))
      | inr none ↦ rw none (omega arith)
    ]

-- the tree of a document of one pair
pub pair-document : (text at_value rest : List ℕ) (k : Key) (d : Data) → key_equals (skip_blank (skip_bom text)) ≡ Some (k, at_value) → val 80 at_value ≡ Some (d, rest) → is_over rest ≡ true
    → (ms : Members) × (parse_document text ≡ Some ms) × (chain ms ≡ k.0 ++ k.1 ∷ chain_of_data d)
unfolding define along_header skip_bom
pair-document text at_value rest k d front back over =
    let (ends, none) = and_parts (ends_line (skip_ws rest)) (length (skip_blank rest) == 0) over in
    let start = skip_blank (skip_bom text) in
    let (some, other) = key_equals-first start k at_value front in
    let (ns, made, leads) = put-fresh k.0 k.1 d in
    let nonempty : (length start == 0) ≡ false = grind (arith, nat_tests) in
    let read = line-pair start at_value rest k d front back ends in
    let defined : define (no_nodes, []) (k, key_value d) ≡ Some (ns, []) = rw made in
    let blank : length (skip_blank rest) ≡ 0 = grind (arith, nat_tests) in
    let whole = lines_more (suc (length text)) (no_nodes, []) (ns, []) (skip_bom text) (k, key_value d) rest (omega arith) nonempty read defined in
    let room : 0 < suc (length text) - 1 = omega (arith, bom-within text, skip_within (skip_bom text), some) in
    (close ns, document_some text (ns, []) (whole ∙ lines_end _ (ns, []) rest room blank), leads)

-- where the chain isn't empty there are keys
pub has_keys-chain : (ms : Members) (k : Name) (path more : List Name) → chain ms ≡ path ++ k ∷ more → has_keys (Some ms) ≡ true
has_keys-chain no_members k [] more h = cc
has_keys-chain no_members k (p ∷ path) more h = cc
has_keys-chain (member l d ms) k path more h = refl

-- a reading that has a rest succeeded
pub read-rest : {A : Type 0} (r : Read A) (rest : List ℕ) → rest_of_read r ≡ Some rest → (x : A) × (r ≡ Some (x, rest))
read-rest None rest h = absurd (none-some rest h)
read-rest (Some p) rest h = (p.0, ap (λ t. Some (p.0, t)) (same_Some p.1 rest h))

pub rest-map : {A B : Type 0} (f : A → B) (r : Read A) → rest_of_read (option_map (λ p. (f p.0, p.1)) r) ≡ rest_of_read r
rest-map f None = refl
rest-map f (Some p) = refl

-- reading the items of a text continues at a rest of it
abbrev pub HasPassed : (List ℕ → Read Data) → List ℕ → List ℕ → Type 0
HasPassed val text rest =
    (n : ℕ) → length text < n → (found : Items) → (m : ℕ) × (more : Items) × (length rest < m) × (rest_of_read (items val n found text) ≡ rest_of_read (items val m more rest))

pub passed-start : (val : List ℕ → Read Data) (text : List ℕ) → HasPassed val text text
passed-start val text n room found = (n, found, room, refl)

pub passed-more : (val : List ℕ → Read Data) (text rest after next : List ℕ) → HasPassed val text rest → (first (skip_blank rest) == 93) ≡ false
    → rest_of_read (val (skip_blank rest)) ≡ Some after → after_element 93 after ≡ Some next → length next < length rest → HasPassed val text next
passed-more val text rest after next so_far other read element shorter n room found =
    let (m, more, fits, same) = so_far n room found in
    let (d, is) = read-rest (val (skip_blank rest)) after read in
    (m - 1, push_item more d, omega arith, same ∙ ap rest_of_read (items_more val m more rest d after next (omega arith) other is element))

-- an atom as a value
pub passed-atom : (depth : ℕ) (text rest : List ℕ) → (first text == 91) ≡ false → (first text == 123) ≡ false → rest_of_read (atom text) ≡ Some rest → rest_of_read (val depth text) ≡ Some rest
passed-atom depth text rest a b h = ap rest_of_read (val_atom depth text a b) ∙ h

-- an array as a value
pub passed-array : (depth : ℕ) (text rest : List ℕ) → (first text == 91) ≡ true → IsBehindItems (val depth) (drop 1 text) rest → 0 < length text → rest_of_read (val (suc depth) text) ≡ Some rest
passed-array depth text rest a h some =
    ap rest_of_read (val_array depth text a) ∙ rest-map array (items (val depth) (length text) no_items (drop 1 text))
    ∙ h (length text) (omega (arith, length-drop 1 text)) no_items

-- a plain pair parses alone
pub plain-stands : (text at_value rest : List ℕ) → rest_of_read (key_equals (skip_blank (skip_bom text))) ≡ Some at_value → rest_of_read (val 80 at_value) ≡ Some rest → is_over rest ≡ true → stands text ≡ true
plain-stands text at_value rest front back over =
    let (k, named) = read-rest (key_equals (skip_blank (skip_bom text))) at_value front in
    let (d, read) = read-rest (val 80 at_value) rest back in
    let (ms, whole, leads) = pair-document text at_value rest k d named read over in
    rw whole (has_keys-chain ms k.1 k.0 (chain_of_data d) leads)

pub passed-end : (val : List ℕ → Read Data) (text rest : List ℕ) → HasPassed val text rest → (first (skip_blank rest) == 93) ≡ true
    → (n : ℕ) → length text < n → (found : Items) → rest_of_read (items val n found text) ≡ Some (drop 1 (skip_blank rest))
passed-end val text rest so_far closing n room found =
    let (m, more, fits, same) = so_far n room found in
    same ∙ ap rest_of_read (items_end val m more rest (omega arith) closing)

pub some-weaker : {X : Type 0} (o : Option X) (P Q : X → Type 0) → ((x : X) → P x → Q x) → IfSome o P → IfSome o Q
some-weaker None P Q f h = tt
some-weaker (Some x) P Q f h = f x h

zero-read : val 80 (48 ∷ []) ≡ Some (integer (pos 0), [])
unfolding toml_on_literals
zero-read = refl

zero-over : is_over [] ≡ true
unfolding toml_on_literals
zero-over = refl

zero-behind : (text : List ℕ) (k : Key) → key text ≡ Some (k, 61 ∷ 48 ∷ []) → key_equals text ≡ Some (k, 48 ∷ [])
unfolding key_equals skip_ws
zero-behind text k h = rw h

-- a key followed by `=0` parses alone, and its names are the chain of its tree
pub zero-document : (text : List ℕ) (k : Key) → key (skip_blank (skip_bom text)) ≡ Some (k, 61 ∷ 48 ∷ []) → (stands text ≡ true) × (k.0 ++ k.1 ∷ [] ≡ chain_at text)
zero-document text k h =
    let (ms, whole, leads) = pair-document text (48 ∷ []) [] k (integer (pos 0)) (zero-behind _ k h) zero-read zero-over in
    (rw whole (has_keys-chain ms k.1 k.0 [] leads), rw whole (sym leads))

-- a key of one bare name
pub bare-key : (text after rest : List ℕ) → is_bare (first text) ≡ true → after ≡ skip_ws (split_while is_bare text).1 → (first after == 61) ≡ true → rest ≡ skip_ws (drop 1 after) → rest_of_read (key_equals text) ≡ Some rest
unfolding key_equals key_after simple_key
bare-key text after rest bare here equals is =
    let quote : starts_string text ≡ false = grind (arith, nat_tests) in
    let back : skip_ws (drop (prefix_len is_bare text) text) ≡ after = sym here in
    let dot : (first after == 46) ≡ false = grind (arith, nat_tests) in
    rw (quote, bare, back, dot, equals, is)

plain-one : (q : ℕ) (inside rest : List ℕ) → (q == 34 || q == 39) ≡ true → rest ≡ (split_while (is_plain q false) inside).1 → (first rest == q) ≡ true → (first inside == q) ≡ false
    → rest_of_read (atom (q ∷ inside)) ≡ Some (drop 1 rest)
unfolding atom quoted one_line special
plain-one q inside rest quote is closing some =
    let (m, room, read) = body_run q false inside (suc (length inside)) (omega arith) in
    let closed : (first (split_while (is_plain q false) inside).1 == q) ≡ true = rw (← is) closing in
    rw (quote, some, read, closed, is)

-- a string on one line without escapes
pub plain-text : (text rest : List ℕ) → starts_string text ≡ true → rest ≡ (split_while (is_plain (first text) false) (drop 1 text)).1 → (first rest == first text) ≡ true → (first (drop 1 text) == first text) ≡ false
    → rest_of_read (atom text) ≡ Some (drop 1 rest)
plain-text [] rest quote is closing some = absurd (false≢true quote)
plain-text (q ∷ inside) rest quote is closing some = plain-one q inside rest quote is closing some
