-- Runs of whole lines, and what the table that was read from a text implies.
use Rattle.std.proofs.Common.{◌≡◌, ℕ, ◌+◌, ◌-◌, ◌<◌, ◌≤◌, List, [], ◌∷◌, ◌++◌, length, map, take, drop, get_or, Bool, true, false, not, Some, String, Global, IsTrue, sym, refl, ap, subst, inl, inr, arith}
use Rattle.std.specs.Prelude.{IsUtf8, ◌↔◌}
use Rattle.std.specs.Str.{IsCharBoundary}
use Rattle.std.proofs.lemmas.Str.{IsCharBoundary-end, IsCharBoundary-after_ascii}
use Rattle.std.proofs.lemmas.List.{length-take-le, take-append-drop}
use Rattle.toml.specs.View.{members_view}
use Rattle.toml.specs.declared.value.Value.{Value}
use Rattle.hack_base.specs.Names.{Name}
use Rattle.hack_manifest.specs.LineRuns.{IsLines, IsRun, IsShortest, IsCutInto}
use Rattle.hack_manifest.specs.Internal.{has_keys}
use Rattle.hack_manifest.specs.Paths.{IsPathOfPiece, View, HavePaths, next_header}

abbrev pub Entry : Type 0
Entry = String Global × Value

-- a text may be split after an ASCII byte
pub IsCharBoundary-behind : (text : List ℕ) (n : ℕ) → IsUtf8 text → 0 < n → n ≤ length text → get_or text (n - 1) 0 < 128 → IsCharBoundary text n
IsCharBoundary-behind text n utf8 some within ascii =
    let same : (n - 1) + 1 ≡ n = omega arith in
    let P : ℕ → Type 0 = λ k. IsCharBoundary text k in
    subst P same (IsCharBoundary-after_ascii text (n - 1) utf8 (omega arith) ascii)

-- a text may be split after whole lines
pub IsCharBoundary-lines : (text : List ℕ) (n : ℕ) → IsUtf8 text → IsLines text n → IsCharBoundary text n
IsCharBoundary-lines text n utf8 lines =
    elim lines.ends as (λ _. IsCharBoundary text n) [
      | inl end ↦ let P : ℕ → Type 0 = λ k. IsCharBoundary text k in subst P (sym end) (IsCharBoundary-end text)
      | inr feed ↦ IsCharBoundary-behind text n utf8 lines.some lines.within (omega (arith, feed))
    ]

-- a table has keys unless it is empty
pub has_keys-table : (es : List Entry) (b : Bool) → (IsTrue b ↔ (length es ≡ 0)) → not b ≡ has_keys (Some (members_view es))
has_keys-table [] true h = refl
has_keys-table [] false h = absurd (cc (h.1 refl))
has_keys-table (e ∷ es) true h = absurd (omega (arith, h.0 refl))
has_keys-table (e ∷ es) false h = refl

-- the header's path after some pieces
abbrev pub last_header : List Name → List View → List Name
last_header header [] = header
last_header header (p ∷ ps) = last_header (next_header header p) ps

-- one more piece after pieces with their paths
pub HavePaths-last : (header : List (List ℕ)) (ps : List View) (p : View) → HavePaths header ps → IsPathOfPiece (last_header header ps) p.text p.path → HavePaths header (ps ++ p ∷ [])
HavePaths-last header [] p h here = (here, tt)
HavePaths-last header (q ∷ ps) p h here = (h.0, HavePaths-last (next_header header q) ps p h.1 here)

pub last_header-last : (header : List (List ℕ)) (ps : List View) (p : View) → last_header header (ps ++ p ∷ []) ≡ next_header (last_header header ps) p
last_header-last header [] p = refl
last_header-last header (q ∷ ps) p = last_header-last (next_header header q) ps p

joined : (ps : List View) (p : View) (more : List (List ℕ)) → map (λ p. p.text) ps ++ (p.text ∷ more) ≡ map (λ p. p.text) (ps ++ p ∷ []) ++ more
joined [] p more = refl
joined (q ∷ ps) p more = ap (λ t. q.text ∷ t) (joined ps p more)

-- a run that was split off the rest is appended to the pieces found
pub texts-last : (text rest : List ℕ) (ps : List View) (p : View) (n : ℕ) → IsShortest (IsRun rest) n → p.text ≡ take n rest
    → ((more : List (List ℕ)) (tail : List ℕ) → IsCutInto more tail rest → IsCutInto (map (λ p. p.text) ps ++ more) tail text)
    → (more : List (List ℕ)) (tail : List ℕ) → IsCutInto more tail (drop n rest) → IsCutInto (map (λ p. p.text) (ps ++ p ∷ []) ++ more) tail text
texts-last text rest ps p n first is so_far more tail h =
    let len : length (take n rest) ≡ n = length-take-le n rest first.holds.lines.within in
    let whole : rest ≡ take n rest ++ drop n rest = sym (take-append-drop n rest) in
    let Q : ℕ → Type 0 = λ k. IsShortest (IsRun rest) k in
    let R : List ℕ → Type 0 = λ t. IsCutInto (t ∷ more) tail rest in
    let here : IsCutInto (take n rest ∷ more) tail rest = (drop n rest, whole, subst Q (sym len) first, h) in
    let S : List (List ℕ) → Type 0 = λ ts. IsCutInto ts tail text in
    subst S (joined ps p more) (so_far (p.text ∷ more) tail (subst R (sym is) here))
