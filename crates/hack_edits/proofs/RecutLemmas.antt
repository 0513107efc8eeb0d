-- What is left of pieces is cut again into pieces with their paths.
use Rattle.std.proofs.Common.{◌≡◌, ◌⊎◌, ℕ, ◌+◌, ◌-◌, ◌<◌, ◌≤◌, List, [], ◌∷◌, ◌++◌, length, map, Bool, true, false, refl, sym, ap, subst, ◌∙◌, inl, inr, arith, length-append, String, string_bytes, string_eq}
use Rattle.std.proofs.lemmas.List.{take-append-le, get_or_append_left, append-nil}
use Rattle.hack_base.specs.Names.{Name, names_of}
use Rattle.hack_manifest.specs.Paths.{View, is_header, IsPathOfPiece, HavePaths, next_header, AreCut}
use Rattle.hack_manifest.specs.LineRuns.{IsLines, IsRun, IsShortest, IsCutInto, stands}
use Rattle.hack_manifest.proofs.OnceLemmas.{own-once}
use Rattle.hack_edits.specs.KeyPaths.{is_dev, path_name_at, dev_key, target_key}
use Rattle.hack_edits.specs.DevDeps.{some_dev, HasNoDevPiece}
use Rattle.hack_edits.specs.LeftPieces.{EndsInFeed, KeepsKey}
use Rattle.hack_edits.specs.Internal.{AreRecut}
use Rattle.std.specs.Prelude.{◌&&◌, ◌||◌, MatchBool}
use Rattle.std.specs.Str.{bytes_eq}
use Rattle.std.specs.Cmp.Lexicographic.{pointwise}
use Rattle.std.proofs.lemmas.Slice.Eq.{bytes_eq-Decides}
use Rattle.std.proofs.lemmas.Bool.{cases_Bool, false≢true, and_parts}

-- below p's whole length nothing is asked of what follows
lines-below : (p r s : List ℕ) (m : ℕ) → m < length p → IsLines (p ++ r) m → IsLines (p ++ s) m
lines-below p r s m below l =
    let left : length (p ++ r) ≡ length p + length r = length-append p r in
    let right : length (p ++ s) ≡ length p + length s = length-append p s in
    let some : 0 < m = l.some in
    let here : m - 1 < length p = omega arith in
    record {
      some = some;
      within = omega arith;
      ends = elim l.ends [
        | inl all ↦ absurd (omega arith)
        | inr feed ↦ inr (get_or_append_left p s 0 (m - 1) here ∙ sym (get_or_append_left p r 0 (m - 1) here) ∙ feed)
      ];
    }

run-below : (p r s : List ℕ) (m : ℕ) → m < length p → IsRun (p ++ r) m → IsRun (p ++ s) m
run-below p r s m below run =
    let within : m ≤ length p = omega arith in
    record {
      lines = lines-below p r s m below run.lines;
      reads = ap stands (take-append-le m p s within ∙ sym (take-append-le m p r within)) ∙ run.reads;
    }

-- a first run is one whatever follows, where nothing does or it ends in a line feed
first-moved : (p r s : List ℕ) → ((length s ≡ 0) ⊎ EndsInFeed p) → IsShortest (IsRun (p ++ r)) (length p) → IsShortest (IsRun (p ++ s)) (length p)
first-moved p r s end first =
    let some : 0 < length p = first.holds.lines.some in
    let whole : length (p ++ s) ≡ length p + length s = length-append p s in
    let last : length p - 1 < length p = omega arith in
    let all : length p ≤ length p = omega arith in
    record {
      holds = record {
        lines = record {
          some = some;
          within = omega arith;
          ends = elim end [
            | inl none ↦ inl (omega arith)
            | inr feed ↦ inr (get_or_append_left p s 0 (length p - 1) last ∙ feed)
          ];
        };
        reads = ap stands (take-append-le (length p) p s all ∙ sym (take-append-le (length p) p r all)) ∙ first.holds.reads;
      };
      shortest = λ m below run. first.shortest m below (run-below p s r m below run);
    }

-- how a first run ends: the text ends with it, or it ends in a line feed
run-end : (p r : List ℕ) → IsShortest (IsRun (p ++ r)) (length p) → (length r ≡ 0) ⊎ EndsInFeed p
run-end p r first =
    let some : 0 < length p = first.holds.lines.some in
    let whole : length (p ++ r) ≡ length p + length r = length-append p r in
    elim first.holds.lines.ends [
      | inl all ↦ inl (omega arith)
      | inr feed ↦ inr (sym (get_or_append_left p r 0 (length p - 1) (omega arith)) ∙ feed)
    ]

-- an empty text is no pieces, and what is left of them is empty
empty_text : (ps : List View) (tail text new : List ℕ) → IsCutInto (map (λ p. p.text) ps) tail text → AreRecut ps tail new → length text ≡ 0 → length new ≡ 0
empty_text [] tail text new h left none = ap length (left ∙ h.0) ∙ none
empty_text (p ∷ ps) tail text new (rest, whole, first, more) left none =
    let some : 0 < length p.text = first.holds.lines.some in
    let within : length p.text ≤ length text = first.holds.lines.within in
    absurd (omega arith)

-- ---- their paths

or_and : (b c d : Bool) → (b || (c && false)) ≡ true → (b || (c && d)) ≡ true
or_and true c d h = refl
or_and false true d h = absurd (false≢true h)
or_and false false d h = absurd (false≢true h)

-- a path that begins with one of development dependencies is theirs too
is_dev-append : (h k : List (List ℕ)) → is_dev h ≡ true → is_dev (h ++ k) ≡ true
is_dev-append [] k e = absurd (false≢true e)
is_dev-append (x ∷ []) k e = or_and (bytes_eq x dev_key) (bytes_eq x target_key) (bytes_eq (path_name_at (x ∷ k) 2) dev_key) e
is_dev-append (x ∷ y ∷ []) k e = or_and (bytes_eq x dev_key) (bytes_eq x target_key) (bytes_eq (path_name_at (x ∷ y ∷ k) 2) dev_key) e
is_dev-append (x ∷ y ∷ z ∷ h) k e = e

-- the header in the text that stays: it is the header, unless that was removed
abbrev Follows : List (List ℕ) → List (List ℕ) → Type 0
Follows header now = (header ≡ now) ⊎ (is_dev header ≡ true)

path-moved : (header now : List (List ℕ)) (text : List ℕ) (path : List (List ℕ)) → is_dev path ≡ false → Follows header now → IsPathOfPiece header text path → IsPathOfPiece now text path
path-moved header now text path stays (inl same) h = let P : List (List ℕ) → Type 0 = λ t. IsPathOfPiece t text path in subst P same h
path-moved header now text path stays (inr gone) h =
    record {
      own = h.own;
      behind = λ plain. absurd (let (key, own, is) = h.behind plain in false≢true (sym stays ∙ ap is_dev is ∙ is_dev-append header key gone));
    }

next-header : (header : List (List ℕ)) (p : View) → is_header p.text ≡ true → next_header header p ≡ p.path
next-header header p e = rw e

next-plain : (header : List (List ℕ)) (p : View) → is_header p.text ≡ false → next_header header p ≡ header
next-plain header p e = rw e

-- after a piece that is removed
follows-gone : (header now : List (List ℕ)) (p : View) → is_dev p.path ≡ true → Follows header now → Follows (next_header header p) now
follows-gone header now p gone f =
    elim (cases_Bool (is_header p.text)) [
      | inl e ↦ inr (ap is_dev (next-header header p e) ∙ gone)
      | inr e ↦ let P : List (List ℕ) → Type 0 = λ t. Follows t now in subst P (sym (next-plain header p e)) f
    ]

-- after a piece that stays
follows-kept : (header now : List (List ℕ)) (p : View) → Follows header now → Follows (next_header header p) (next_header now p)
follows-kept header now p f =
    elim (cases_Bool (is_header p.text)) [
      | inl e ↦ inl (next-header header p e ∙ sym (next-header now p e))
      | inr e ↦
          let P : List (List ℕ) → Type 0 = λ t. Follows t (next_header now p) in
          let Q : List (List ℕ) → Type 0 = λ t. Follows header t in
          subst P (sym (next-plain header p e)) (subst Q (sym (next-plain now p e)) f)
    ]

-- after a key, which isn't a header
follows-plain : (header now : List Name) (p : View) → is_header p.text ≡ false → Follows header now → Follows (next_header header p) now
follows-plain header now p e f = let P : List Name → Type 0 = λ t. Follows t now in subst P (sym (next-plain header p e)) f

-- ---- what is left

-- the text is pieces after this header, of which none is one of development dependencies
record IsCutAgain (header : List Name) (tail text : List ℕ) : Type 0 where
  pieces : List View
  texts : IsCutInto (map (λ p. p.text) pieces) tail text
  paths : HavePaths header pieces
  none : some_dev pieces ≡ false

-- a piece in front
with-piece : (now : List Name) (p : View) (tail text : List ℕ) → is_dev p.path ≡ false → IsPathOfPiece now p.text p.path → IsShortest (IsRun (p.text ++ text)) (length p.text)
    → IsCutAgain (next_header now p) tail text → IsCutAgain now tail (p.text ++ text)
with-piece now p tail text stays path first again =
    record {
      pieces = p ∷ again.pieces;
      texts = (text, refl, first, again.texts);
      paths = (path, again.paths);
      none = rw (stays, again.none) refl;
    }

-- a key with its names in front
with-key : (header now : List Name) (p : View) (part tail text : List ℕ) → is_dev p.path ≡ false → Follows header now → IsPathOfPiece header p.text p.path → KeepsKey p.text part
    → IsShortest (IsRun (part ++ text)) (length part) → IsCutAgain now tail text → IsCutAgain now tail (part ++ text)
with-key header now p part tail text stays f path keeps first again =
    let left : View = record { text = part; path = p.path } in
    let moved : IsPathOfPiece now p.text p.path = path-moved header now p.text p.path stays f path in
    let P : List Name → Type 0 = λ t. IsCutAgain t tail text in
    let here : IsPathOfPiece now part p.path = record {
      own = λ is. absurd (false≢true (sym keeps.still_plain ∙ is));
      behind = λ plain. (let (key, own, is) = moved.behind keeps.plain in (keeps.key, keeps.kept, is ∙ ap (λ k. now ++ k) (own-once p.text key keeps.key own keeps.own)));
    } in
    with-piece now left tail text stays here first (subst P (sym (next-plain now left keeps.still_plain)) again)

-- after a piece that is removed, that stays, or that keeps its key
recut-step : (b : Bool) (p : View) (header now : List Name) (part tail rest new : List ℕ) → is_dev p.path ≡ b → Follows header now → IsPathOfPiece header p.text p.path
    → IsShortest (IsRun (p.text ++ rest)) (length p.text) → (length rest ≡ 0 → length new ≡ 0) → MatchBool b (part ≡ []) ((part ≡ p.text) ⊎ KeepsKey p.text part)
    → ((next : List Name) → Follows (next_header header p) next → IsCutAgain next tail new) → IsCutAgain now tail (part ++ new)
recut-step true p header now part tail rest new gone f path first ends none again =
    let P : List ℕ → Type 0 = λ t. IsCutAgain now tail (t ++ new) in
    subst P (sym none) (again now (follows-gone header now p gone f))
recut-step false p header now part tail rest new stays f path first ends (inl same) again =
    let P : List ℕ → Type 0 = λ t. IsCutAgain now tail (t ++ new) in
    let moved : IsPathOfPiece now p.text p.path = path-moved header now p.text p.path stays f path in
    let end : (length new ≡ 0) ⊎ EndsInFeed p.text = elim (run-end p.text rest first) [
      | inl none ↦ inl (ends none)
      | inr feed ↦ inr feed
    ] in
    subst P (sym same) (with-piece now p tail new stays moved (first-moved p.text rest new end first) (again (next_header now p) (follows-kept header now p f)))
recut-step false p header now part tail rest new stays f path first ends (inr keeps) again =
    let P : List ℕ → Type 0 = λ t. IsShortest (IsRun t) (length part) in
    let end : (length new ≡ 0) ⊎ EndsInFeed part = elim (run-end p.text rest first) [
      | inl none ↦ inl (ends none)
      | inr feed ↦ inr (keeps.feed feed)
    ] in
    with-key header now p part tail new stays f path keeps (first-moved part [] new end (subst P (sym (append-nil part)) keeps.run)) (again now (follows-plain header now p keeps.plain f))

recut : (ps : List View) (header now : List Name) (tail text new : List ℕ) → Follows header now → IsCutInto (map (λ p. p.text) ps) tail text → HavePaths header ps
    → AreRecut ps tail new → IsCutAgain now tail new
recut [] header now tail text new f h paths left =
    let P : List ℕ → Type 0 = λ t. (m : ℕ) → IsRun t m → ⊥ in
    record { pieces = []; texts = (sym left, subst P (sym h.0 ∙ sym left) h.1); paths = tt; none = refl }
recut (p ∷ ps) header now tail text new f (rest, whole, first, more) (path, paths) (part, behind, joined, is, others) =
    let P : List ℕ → Type 0 = λ t. IsShortest (IsRun t) (length p.text) in
    let Q : List ℕ → Type 0 = λ t. IsCutAgain now tail t in
    subst Q (sym joined) (recut-step (is_dev p.path) p header now part tail rest behind refl f path (subst P whole first) (empty_text ps tail rest behind more others) is
    (λ next follows. recut ps (next_header header p) next tail rest behind follows more paths others))

-- what is left of a text's pieces has no piece of development dependencies
pub no_dev-left : (ps : List View) (tail text new : List ℕ) → AreCut text ps tail → AreRecut ps tail new → HasNoDevPiece new
no_dev-left ps tail text new cut left =
    let again = recut ps [] [] tail text new (inl refl) cut.texts cut.paths left in
    record { pieces = again.pieces; tail = tail; cut = record { texts = again.texts; paths = again.paths }; none = again.none }

-- names that are the same one by one are the same
pub same-names : {Y : Type 0} (xs ys : List (String Y)) → pointwise string_eq xs ys ≡ true → names_of xs ≡ names_of ys
same-names [] [] h = refl
same-names [] (y ∷ ys) h = absurd (cc)
same-names (x ∷ xs) [] h = absurd (cc)
same-names (x ∷ xs) (y ∷ ys) h =
    let both = and_parts (string_eq x y) (pointwise string_eq xs ys) h in
    let first : string_bytes x ≡ string_bytes y = (bytes_eq-Decides (string_bytes x) (string_bytes y)).0 both.0 in
    ap (λ n. n ∷ names_of xs) first ∙ ap (λ ns. string_bytes y ∷ ns) (same-names xs ys both.1)
