-- A prefix of a piece that is one bare name and `=`: followed by `0`, it is read as a pair.
use Rattle.std.proofs.Common.{◌≡◌, ℕ, suc, ◌+◌, ◌-◌, ◌<◌, ◌≤◌, Bool, true, false, cond, ◌&&◌, ◌==◌, List, [], ◌∷◌, ◌++◌, length, take, drop, Option, Some, None, is_some, unwrap_or, refl, sym, ap, ◌∙◌, inl, inr, arith, length-drop}
use Rattle.std.proofs.lemmas.Bool.{cases_Bool}
use Rattle.std.proofs.lemmas.Bool.Decides.{nat_tests}
use Rattle.std.proofs.lemmas.List.{take-append-le, drop-append-le}
use Rattle.std.specs.List.{prefix_len}
use Rattle.std.specs.Prelude.{slice_index}
use Rattle.toml_parser.specs.Lexical.{first, is_ws, is_bare, skip_ws, skip_blank, skip_turn, skip_from}
use Rattle.toml_parser.specs.Strings.{key, key_after, simple_key, starts_string}
use Rattle.toml.specs.Parse.{skip_bom}
use Rattle.hack_manifest.specs.PieceFronts.{IsFrontTo}
use Rattle.hack_manifest.specs.LineRuns.{chain_at}
use Rattle.hack_manifest.specs.Keys.{IsBareName}
use Rattle.hack_manifest.proofs.PairLemmas.{zero-document}

-- a text followed by `0`
abbrev zero_behind : List ℕ → List ℕ
zero_behind text = text ++ 48 ∷ []

-- a run of bytes that ends within a text ends there in a longer text too
run-grows : (p : ℕ → Bool) (text more : List ℕ) → 0 < length (drop (prefix_len p text) text) → prefix_len p (text ++ more) ≡ prefix_len p text
run-grows p [] more some = absurd (omega (arith, some))
run-grows p (c ∷ cs) more some =
    elim (cases_Bool (p c)) [
      | inl passes ↦
          let next : 1 + prefix_len p cs ≡ suc (prefix_len p cs) = omega arith in
          rw passes (ap (λ n. 1 + n) (run-grows p cs more (rw (passes, next) at some)))
      | inr stops ↦ rw stops
    ]

within-run : (p : ℕ → Bool) (text : List ℕ) → 0 < length (drop (prefix_len p text) text) → prefix_len p text ≤ length text
within-run p text some = omega (arith, some, length-drop (prefix_len p text) text)

ws-grows : (text : List ℕ) → 0 < length (skip_ws text) → skip_ws (zero_behind text) ≡ zero_behind (skip_ws text)
unfolding skip_ws
ws-grows text some =
    ap (λ n. drop n (zero_behind text)) (run-grows is_ws text (48 ∷ []) some) ∙ drop-append-le (prefix_len is_ws text) text (48 ∷ []) (within-run is_ws text some)

bom-grows : (text : List ℕ) → skip_bom (zero_behind text) ≡ zero_behind (skip_bom text)
unfolding skip_bom
bom-grows [] = refl
bom-grows (a ∷ []) = elim (cases_Bool (a == 239)) [ inl mark ↦ rw mark | inr none ↦ rw none ]
bom-grows (a ∷ b ∷ []) = elim (cases_Bool (a == 239 && b == 187)) [ inl mark ↦ rw mark | inr none ↦ rw none ]
bom-grows (a ∷ b ∷ c ∷ rest) = elim (cases_Bool ((a == 239 && b == 187) && c == 191)) [ inl mark ↦ rw mark | inr none ↦ rw none ]

turn-same : (inside : Bool) (c : ℕ) (cs : List ℕ) → skip_turn true inside c (first (zero_behind cs)) ≡ skip_turn true inside c (first cs)
turn-same inside c [] = refl
turn-same inside c (d ∷ ds) = refl

-- one turn over blanks
skip_by : Option Bool → ℕ → List ℕ → List ℕ
skip_by t c cs = cond (is_some t) (skip_from true (unwrap_or t false) cs) (c ∷ cs)

by-grows : (t : Option Bool) (c : ℕ) (cs : List ℕ) → ((inside : Bool) → 0 < length (skip_from true inside cs) → skip_from true inside (zero_behind cs) ≡ zero_behind (skip_from true inside cs))
    → 0 < length (skip_by t c cs) → skip_by t c (zero_behind cs) ≡ zero_behind (skip_by t c cs)
unfolding skip_by
by-grows None c cs later some = refl
by-grows (Some inside) c cs later some = later inside some

blank-grows : (inside : Bool) (text : List ℕ) → 0 < length (skip_from true inside text) → skip_from true inside (zero_behind text) ≡ zero_behind (skip_from true inside text)
unfolding skip_from skip_by
blank-grows inside [] some = absurd (omega (arith, some))
blank-grows inside (c ∷ cs) some =
    ap (λ t. skip_by t c (zero_behind cs)) (turn-same inside c cs) ∙ by-grows (skip_turn true inside c (first cs)) c cs (λ within more. blank-grows within cs more) some

ws-within : (text : List ℕ) → length (skip_ws text) ≤ length text
unfolding skip_ws
ws-within text = omega (arith, length-drop (prefix_len is_ws text) text)

nonempty-from : (text : List ℕ) (n : ℕ) → 0 < length (drop n text) → 0 < length text
nonempty-from text n some = omega (arith, some, length-drop n text)

first-grows : (text : List ℕ) → 0 < length text → first (zero_behind text) ≡ first text
first-grows [] some = absurd (omega (arith, some))
first-grows (c ∷ cs) some = refl

name-grows : (text name : List ℕ) → IsBareName text name → key (zero_behind text) ≡ Some (([], name), 61 ∷ 48 ∷ [])
unfolding key_after simple_key
name-grows text name is =
    let n = prefix_len is_bare text in
    let back = drop n text in
    let after : 0 < length (skip_ws back) = rw is.rest (omega arith) in
    let some : 0 < length back = omega (arith, ws-within back, after) in
    let fits : n ≤ length text = within-run is_bare text some in
    let bare : is_bare (first (zero_behind text)) ≡ true = rw (first-grows text (nonempty-from text n some)) is.some in
    let quote : starts_string (zero_behind text) ≡ false = grind (arith, nat_tests) in
    let len : prefix_len is_bare (zero_behind text) ≡ n = run-grows is_bare text (48 ∷ []) some in
    let front : take n (zero_behind text) ≡ name = take-append-le n text (48 ∷ []) fits ∙ sym is.front in
    let rest : drop n (zero_behind text) ≡ zero_behind back = drop-append-le n text (48 ∷ []) fits in
    let end : skip_ws (zero_behind back) ≡ 61 ∷ 48 ∷ [] = ws-grows back after ∙ ap zero_behind is.rest in
    rw (quote, bare, len, front, rest, end)

-- a prefix with one bare name
pub front-name : (piece s name : List ℕ) (n : ℕ) → 0 < n → n ≤ length piece → slice_index piece (n - 1) ≡ 61 → s ≡ skip_blank (skip_bom (take n piece)) → IsBareName s name
    → IsFrontTo 61 (48 ∷ []) piece n × (name ∷ [] ≡ chain_at (take n piece ++ 48 ∷ []))
front-name piece s name n some within ends is bare =
    let front = take n piece in
    let k = prefix_len is_bare s in
    let after : 0 < length (skip_ws (drop k s)) = rw bare.rest (omega arith) in
    let nonempty : 0 < length s = nonempty-from s k (omega (arith, ws-within (drop k s), after)) in
    let start : skip_blank (skip_bom (zero_behind front)) ≡ zero_behind s = ap skip_blank (bom-grows front) ∙ blank-grows false (skip_bom front) (rw (← is) nonempty) ∙ ap zero_behind (sym is) in
    let read : key (skip_blank (skip_bom (zero_behind front))) ≡ Some (([], name), 61 ∷ 48 ∷ []) = ap key start ∙ name-grows s name bare in
    let (one, names) = zero-document (zero_behind front) ([], name) read in
    (record { some = some; within = within; ends = ends; reads = one }, names)
