-- A text is cut in only one way, and its pieces joined are the text. So a manifest is read in only
-- one way.
use Rattle.std.proofs.Common.{◌≡◌, ◌⊎◌, ℕ, ◌<◌, List, [], ◌∷◌, ◌++◌, length, map, take, drop, refl, sym, ap, subst, ◌∙◌, inl, inr, arith, append_assoc}
use Rattle.std.proofs.lemmas.Bool.{cases_Bool}
use Rattle.std.proofs.lemmas.List.{take_at, drop_at}
use Rattle.std.proofs.lemmas.Option.{same_Some}
use Rattle.hack_base.specs.Names.{Name}
use Rattle.hack_manifest.specs.LineRuns.{IsRun, IsShortest, IsCutInto, chain_at}
use Rattle.hack_manifest.specs.PieceFronts.{IsFrontTo}
use Rattle.hack_manifest.specs.Paths.{View, AreCut, IsOwnKey, at_front, no_front, IsPathOfPiece, HavePaths, next_header, is_header, joined_pieces}
use Rattle.hack_manifest.specs.Manifest.{Facts, IsReadAs, read_manifest}
use Rattle.hack_base.specs.FieldReadings.{FieldReading}

joined-text : (ps : List View) (tail text : List ℕ) → IsCutInto (map (λ p. p.text) ps) tail text → text ≡ joined_pieces ps ++ tail
joined-text [] tail text h = sym h.0
joined-text (p ∷ ps) tail text (rest, whole, first, more) =
    whole ∙ ap (λ t. p.text ++ t) (joined-text ps tail rest more) ∙ sym (append_assoc p.text (joined_pieces ps) tail)

-- the pieces and the tail joined are the text
pub joined-cut : (text tail : List ℕ) (ps : List View) → AreCut text ps tail → text ≡ joined_pieces ps ++ tail
joined-cut text tail ps cut = joined-text ps tail text cut.texts

compare_cases : (m n : ℕ) → (m < n) ⊎ ((m ≡ n) ⊎ (n < m))
compare_cases m n = grind arith

-- there is only one shortest length
shortest_once : (P : ℕ → Type 0) (m n : ℕ) → IsShortest P m → IsShortest P n → m ≡ n
shortest_once P m n a b =
    elim (compare_cases m n) [
      | inl below ↦ absurd (b.shortest m below a.holds)
      | inr (inl same) ↦ same
      | inr (inr above) ↦ absurd (a.shortest n above b.holds)
    ]

texts_once : (ps qs : List (List ℕ)) (s t text : List ℕ) → IsCutInto ps s text → IsCutInto qs t text → (ps ≡ qs) × (s ≡ t)
texts_once [] [] s t text a b = (refl, a.0 ∙ sym b.0)
texts_once [] (q ∷ qs) s t text a (rest, whole, first, more) = absurd (a.1 (length q) first.holds)
texts_once (p ∷ ps) [] s t text (rest, whole, first, more) b = absurd (b.1 (length p) first.holds)
texts_once (p ∷ ps) (q ∷ qs) s t text (r, pw, pf, pm) (u, qw, qf, qm) =
    let same : length p ≡ length q = shortest_once (IsRun text) (length p) (length q) pf qf in
    let front : p ≡ q = sym (take_at p r (length q) same) ∙ ap (take (length q)) (sym pw ∙ qw) ∙ take_at q u (length q) refl in
    let back : r ≡ u = sym (drop_at p r (length q) same) ∙ ap (drop (length q)) (sym pw ∙ qw) ∙ drop_at q u (length q) refl in
    let P : List ℕ → Type 0 = λ x. IsCutInto ps s x in
    let rest = texts_once ps qs s t u (subst P back pm) qm in
    (ap (λ x. x ∷ ps) front ∙ ap (λ xs. q ∷ xs) rest.0, rest.1)

-- a piece has only one own key
pub own-once : (piece : List ℕ) (k l : List Name) → IsOwnKey piece k → IsOwnKey piece l → k ≡ l
own-once piece k l (at_front n f is) (at_front m g also) =
    is ∙ ap (λ n. chain_at (take n piece ++ 48 ∷ [])) (shortest_once (IsFrontTo 61 (48 ∷ []) piece) n m f g) ∙ sym also
own-once piece k l (at_front n f is) (no_front none also) = absurd (none n f.holds)
own-once piece k l (no_front none is) (at_front m g also) = absurd (none m g.holds)
own-once piece k l (no_front none is) (no_front other also) = is ∙ sym also

path_once : (header : List Name) (piece : List ℕ) (p q : List Name) → IsPathOfPiece header piece p → IsPathOfPiece header piece q → p ≡ q
path_once header piece p q a b =
    elim (cases_Bool (is_header piece)) [
      | inl own ↦ a.own own ∙ sym (b.own own)
      | inr key ↦
          let (k, mine, is) = a.behind key in
          let (l, other, also) = b.behind key in
          is ∙ ap (λ names. header ++ names) (own-once piece k l mine other) ∙ sym also
    ]

view_same : (p q : View) → p.text ≡ q.text → p.path ≡ q.path → p ≡ q
view_same p q texts paths =
    ap (λ t. record { text = t; path = p.path }) texts ∙ ap (λ path. record { text = q.text; path = path }) paths

paths_once : (header : List Name) (ps qs : List View) → map (λ p. p.text) ps ≡ map (λ p. p.text) qs → HavePaths header ps → HavePaths header qs → ps ≡ qs
paths_once header [] [] same a b = refl
paths_once header [] (q ∷ qs) same a b = cc
paths_once header (p ∷ ps) [] same a b = cc
paths_once header (p ∷ ps) (q ∷ qs) same a b =
    let text : p.text ≡ q.text = cc in
    let texts : map (λ p. p.text) ps ≡ map (λ p. p.text) qs = cc in
    let P : List ℕ → Type 0 = λ t. IsPathOfPiece header t q.path in
    let path : p.path ≡ q.path = path_once header p.text p.path q.path a.0 (subst P (sym text) b.0) in
    let here : p ≡ q = view_same p q text path in
    let Q : View → Type 0 = λ v. HavePaths (next_header header v) qs in
    ap (λ v. v ∷ ps) here ∙ ap (λ vs. q ∷ vs) (paths_once (next_header header p) ps qs texts a.1 (subst Q (sym here) b.1))

-- a text is cut in only one way
pub cut-once : (text s t : List ℕ) (ps qs : List View) → AreCut text ps s → AreCut text qs t → (ps ≡ qs) × (s ≡ t)
cut-once text s t ps qs a b =
    let same = texts_once (map (λ p. p.text) ps) (map (λ p. p.text) qs) s t text a.texts b.texts in
    (paths_once [] ps qs same.0 a.paths b.paths, same.1)

-- a manifest is read in only one way
pub read-once : (text : List ℕ) (minor : ℕ) (read other : FieldReading Facts) → IsReadAs text minor read → IsReadAs text minor other → read ≡ other
read-once text minor read other a b =
    let trees : a.tree ≡ b.tree = same_Some _ _ (sym a.parsed ∙ b.parsed) in
    let pieces : a.pieces ≡ b.pieces = (cut-once text a.tail b.tail a.pieces b.pieces a.cut b.cut).0 in
    sym a.facts ∙ ap (λ ps. read_manifest minor ps a.tree) pieces ∙ ap (read_manifest minor b.pieces) trees ∙ b.facts
