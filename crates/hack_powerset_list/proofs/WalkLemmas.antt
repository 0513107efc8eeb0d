-- Sets of a walk, one more at a time, and their lines.
use Rattle.std.proofs.Common.{◌≡◌, ℕ, zero, suc, ◌+◌, ◌<◌, ◌≤◌, List, [], ◌∷◌, ◌++◌, length, get_or, map, codes, sym, ◌∙◌, ap, arith, append-nil, append_assoc, None, String, Global, string_bytes, All, take}
use Rattle.std.specs.List.{join_with_byte, cons_option}
use Rattle.std.proofs.lemmas.List.{get_or-map, length-map, take_more}
use Rattle.std.proofs.lemmas.Grind.{flat_map-append}
use Rattle.std.proofs.lemmas.List.Elements.{All-cons}
use Rattle.hack_base.specs.Names.{Name, names_of}
use Rattle.hack_sets.specs.Sets.{items_at, IsSelection}
use Rattle.hack_sets.proofs.Listing.{chosen-push, slice_get-at}
use Rattle.hack_process.specs.CommandTexts.{with_names, shown_features}
use Rattle.hack_plan.specs.Runs.{Set}
use Rattle.hack_powerset_list.specs.Lines.{run_line}
use Rattle.hack_powerset_list.specs.LineWords.{others_text}

-- the names of a set with one position in front
pub chosen-front : (names : List Name) (p : ℕ) (s : List ℕ) → p < length names → items_at names (p ∷ s) ≡ get_or names p [] ∷ items_at names s
chosen-front names p s lt = ap (λ o. cons_option o (items_at names s)) (slice_get-at names p [] lt)

joined : (name : Name) (names : List Name) → join_with_byte 44 (name ∷ names) ≡ name ++ others_text names
joined name [] = sym (append-nil name)
joined name (next ∷ names) = ap (λ l. name ++ (44 ∷ l)) (joined next names)

-- texts made of names by putting the same text before each
pub text-at : (names : List Name) (before : List ℕ) (texts : List (String Global)) (p : ℕ) (d : String Global) → names_of texts ≡ map (λ name. before ++ name) names → p < length names → string_bytes (get_or texts p d) ≡ before ++ get_or names p []
text-at names before texts p d same lt =
    sym (get_or-map string_bytes texts p d (string_bytes d) (omega (arith, lt, count)))
    ∙ ap (λ l. get_or l p (string_bytes d)) same
    ∙ get_or-map (λ (name : Name). before ++ name) names p [] (string_bytes d) lt
  where
    count : length texts ≡ length names
    count = sym (length-map texts string_bytes) ∙ ap length same ∙ length-map names (λ (name : Name). before ++ name)

-- the line of a set, from its command, its first name and the others
pub line-of : (names : List Name) (p : ℕ) (s : List ℕ) (no_default first others : List ℕ) → p < length names → no_default ≡ codes "cargo check --no-default-features" → first ≡ codes " --features " ++ get_or names p []
    → others ≡ others_text (items_at names s) → no_default ++ first ++ others ++ codes "\n" ≡ run_line names (Set (p ∷ s))
line-of names p s no_default first others lt is_bare is_first is_others =
    let name : Name = get_or names p [] in
    let rest : List Name = items_at names s in
    let shown : shown_features (with_names None (items_at names (p ∷ s))) ≡ first ++ others =
    ap (λ l. shown_features (with_names None l)) (chosen-front names p s lt)
    ∙ ap (λ l. codes " --features " ++ l) (joined name rest)
    ∙ sym (append_assoc (codes " --features ") name (others_text rest))
    ∙ ap (λ l. l ++ others_text rest) (sym is_first)
    ∙ ap (λ l. first ++ l) (sym is_others) in
    ap (λ l. l ++ codes "\n")
    (append_assoc no_default first others ∙ ap (λ l. no_default ++ l) (sym shown) ∙ ap (λ l. l ++ shown_features (with_names None (items_at names (p ∷ s)))) is_bare)

-- the names of a set with one position in front, as they follow another name
pub others-front : (names : List Name) (p : ℕ) (s : List ℕ) (next others : List ℕ) → p < length names → next ≡ codes "," ++ get_or names p []
    → others ≡ others_text (items_at names s) → next ++ others ≡ others_text (items_at names (p ∷ s))
others-front names p s next others lt is_next is_others =
    ap (λ l. l ++ others) is_next
    ∙ ap (λ l. (codes "," ++ get_or names p []) ++ l) is_others
    ∙ ap others_text (sym (chosen-front names p s lt))

-- selections

pub selection-front : (n p : ℕ) (s : List ℕ) → p < n → All (λ q. p < q) s → IsSelection n s → IsSelection n (p ∷ s)
selection-front n p s lt above h = record {
  increasing = λ i j d less in'. before i j d less in';
  below = All-cons (λ q. q < n) p s lt h.below;
}
  where
    before : (i j : ℕ) (d : ℕ) → i < j → j < length (p ∷ s) → get_or (p ∷ s) i d < get_or (p ∷ s) j d
    before i zero d less in' = absurd (omega arith)
    before zero (suc j) d less in' = above j d (omega arith)
    before (suc i) (suc j) d less in' = h.increasing i j d (omega arith) (omega arith)

rising-at : (s : List ℕ) (i d : ℕ) → ((i j d : ℕ) → i < j → j < length s → get_or s i d < get_or s j d) → i < length s → i ≤ get_or s i d
rising-at s zero d h lt = omega arith
rising-at s (suc i) d h lt = omega (arith, rising-at s i d h (omega arith), h i (suc i) d (omega arith) lt)

-- a selection below n has at most n positions
pub selection-short : (n : ℕ) (s : List ℕ) → IsSelection n s → length s ≤ n
selection-short n [] h = omega arith
selection-short n (p ∷ s) h = omega (arith, rising-at (p ∷ s) (length s) 0 h.increasing (omega arith), h.below (length s) 0 (omega arith))

pub above-front : (limit p : ℕ) (s : List ℕ) → p < limit → All (λ q. limit ≤ q) s → All (λ q. p < q) s
above-front limit p s lt above = λ k d in'. omega (arith, above k d in')

pub above-cons : (p : ℕ) (s : List ℕ) → All (λ q. p < q) s → All (λ q. p ≤ q) (p ∷ s)
above-cons p s above = All-cons (λ q. p ≤ q) p s (omega arith) (λ k d in'. omega (arith, above k d in'))

-- the names after one more position, as they follow another name
pub others-more : (names : List Name) (xs : List ℕ) (i p : ℕ) (next : List ℕ) → i < length xs → p ≡ get_or xs i p → p < length names → next ≡ codes "," ++ get_or names p []
    → others_text (items_at names (take i xs)) ++ next ≡ others_text (items_at names (take (i + 1) xs))
others-more names xs i p next lt here inside is_next =
    ap (λ l. others_text (items_at names (take i xs)) ++ l) (is_next ∙ sym (append-nil (codes "," ++ get_or names p [])))
    ∙ sym (flat_map-append (λ name. codes "," ++ name) (items_at names (take i xs)) (get_or names p [] ∷ []))
    ∙ ap others_text (sym (chosen-push names (take i xs) p [] inside))
    ∙ ap (λ q. others_text (items_at names (take i xs ++ q ∷ []))) here
    ∙ ap (λ l. others_text (items_at names l)) (sym (take_more xs i p lt))
