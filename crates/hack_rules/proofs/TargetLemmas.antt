-- Texts that are inserted into a set, and the order in which they come out.
use Rattle.std.proofs.Common.{◌≡◌, ◌↔◌, ◌∙◌, ◌||◌, refl, ap, sym, subst, ℕ, List, [], ◌∷◌, Bool, true, false, Contains, map, String, string_bytes, bytes_eq}
use Rattle.std.specs.BTreeSet.{insert_key}
use Rattle.std.specs.Cmp.Lexicographic.{slice_cmp, nat_list_eq_equiv}
use Rattle.std.specs.List.{list_any, AllByRecursion}
use Rattle.std.specs.List.Sorted.{IsStrictlySortedBy}
use Rattle.std.specs.Ordering.{nat_cmp, is_eq, match_ordering}
use Rattle.std.specs.String.{string_cmp}
use Rattle.std.specs.declared.cmp.Ordering.{Ordering}
use Rattle.std.specs.declared.cmp.Ordering.TheVariants.{Less, Equal, Greater}
use Rattle.std.proofs.lemmas.Map.Text.{is_eq-slice_cmp}
use Rattle.std.proofs.lemmas.Map.Views.{Contains-from_any, list_any-from_Contains}
use Rattle.std.proofs.lemmas.Slice.Eq.{bytes_eq-Decides}
use Rattle.hack_rules.specs.Internal.{put_all}

-- the texts are in the order of their bytes, each once
abbrev pub AreRising : List (List ℕ) → Type 0
AreRising texts = IsStrictlySortedBy (slice_cmp nat_cmp) texts

-- the same texts, in whatever order
abbrev pub HaveSameTexts : List (List ℕ) → List (List ℕ) → Type 0
HaveSameTexts texts others = (text : List ℕ) → Contains texts text ↔ Contains others text

abbrev has : List ℕ → List (List ℕ) → Bool
has text texts = list_any (bytes_eq text) texts

or-none : (a : Bool) → (a || false) ≡ a
or-none true = refl
or-none false = refl

or-again : (a b : Bool) → (a || b) ≡ (a || (a || b))
or-again true b = refl
or-again false b = refl

or-swap : (a b c : Bool) → (a || (b || c)) ≡ (b || (a || c))
or-swap true true c = refl
or-swap true false c = refl
or-swap false b c = refl

or-move : (a b c : Bool) → ((a || b) || c) ≡ (b || (a || c))
or-move true true c = refl
or-move true false c = refl
or-move false b c = refl

same-text : {Y : Type 0} (k x : String Y) → string_cmp k x ≡ Equal → string_bytes k ≡ string_bytes x
same-text k x e = (bytes_eq-Decides (string_bytes k) (string_bytes x)).0 (sym (is_eq-slice_cmp (string_bytes k) (string_bytes x)) ∙ ap is_eq e)

-- a set has the text that was put into it, and those that it had
put-has : {Y : Type 0} (text : List ℕ) (keys : List (String Y)) (key : String Y) → has text (map string_bytes (insert_key string_cmp keys key)) ≡ (bytes_eq text (string_bytes key) || has text (map string_bytes keys))
put-has text [] key = refl
put-has text (x ∷ xs) key = cases (put-has text xs key) (string_cmp key x) refl
  where
    cases : has text (map string_bytes (insert_key string_cmp xs key)) ≡ (bytes_eq text (string_bytes key) || has text (map string_bytes xs)) → (o : Ordering) → string_cmp key x ≡ o → has text (map string_bytes (match_ordering o (key ∷ x ∷ xs) (x ∷ xs) (x ∷ insert_key string_cmp xs key))) ≡ (bytes_eq text (string_bytes key) || (bytes_eq text (string_bytes x) || has text (map string_bytes xs)))
    cases later Less e = refl
    cases later Equal e = subst (λ (k : List ℕ). (bytes_eq text (string_bytes x) || has text (map string_bytes xs)) ≡ (bytes_eq text k || (bytes_eq text (string_bytes x) || has text (map string_bytes xs)))) (sym (same-text key x e)) (or-again (bytes_eq text (string_bytes x)) (has text (map string_bytes xs)))
    cases later Greater e = ap (λ b. bytes_eq text (string_bytes x) || b) later ∙ or-swap (bytes_eq text (string_bytes x)) (bytes_eq text (string_bytes key)) (has text (map string_bytes xs))

put_all-has : {Y : Type 0} (text : List ℕ) (keys texts : List (String Y)) → has text (map string_bytes (put_all keys texts)) ≡ (has text (map string_bytes keys) || has text (map string_bytes texts))
put_all-has text keys [] = sym (or-none (has text (map string_bytes keys)))
put_all-has text keys (x ∷ xs) = put_all-has text (insert_key string_cmp keys x) xs ∙ ap (λ b. b || has text (map string_bytes xs)) (put-has text keys x) ∙ or-move (bytes_eq text (string_bytes x)) (has text (map string_bytes keys)) (has text (map string_bytes xs))

-- a set made of texts has the same texts
pub put_all-same : {Y : Type 0} (texts : List (String Y)) → HaveSameTexts (map string_bytes (put_all [] texts)) (map string_bytes texts)
put_all-same texts text = (there, back)
  where
    listed : (ts : List (List ℕ)) → Contains ts text → has text ts ≡ true
    listed ts h = list_any-from_Contains nat_list_eq_equiv text ts h

    found : (ts : List (List ℕ)) → has text ts ≡ true → Contains ts text
    found ts e = Contains-from_any (λ x y. (bytes_eq-Decides x y).0) text ts e

    there : Contains (map string_bytes (put_all [] texts)) text → Contains (map string_bytes texts) text
    there h = found (map string_bytes texts) (sym (put_all-has text [] texts) ∙ listed (map string_bytes (put_all [] texts)) h)

    back : Contains (map string_bytes texts) text → Contains (map string_bytes (put_all [] texts)) text
    back h = found (map string_bytes (put_all [] texts)) (put_all-has text [] texts ∙ listed (map string_bytes texts) h)

-- the keys of a set ascend by their bytes
pub keys-rising : {Y : Type 0} (keys : List (String Y)) → IsStrictlySortedBy string_cmp keys → AreRising (map string_bytes keys)
unfolding IsStrictlySortedBy
keys-rising [] h = tt
keys-rising (x ∷ xs) h = (behind xs h.0, keys-rising xs h.1)
  where
    behind : (ys : List (String _)) → AllByRecursion (λ y. string_cmp x y ≡ Less) ys → AllByRecursion (λ t. slice_cmp nat_cmp (string_bytes x) t ≡ Less) (map string_bytes ys)
    behind [] k = tt
    behind (y ∷ ys) k = (k.0, behind ys k.1)
