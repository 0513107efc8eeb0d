-- Features with one more name, and own arguments one by one.
use Rattle.std.proofs.Common.{◌≡◌, ℕ, ◌+◌, ◌<◌, ◌≤◌, List, [], ◌∷◌, ◌++◌, length, take, drop, get_or, map, refl, ap, sym, ◌∙◌, append_assoc, Option, Some, None, Bool, true, false, inl, inr, codes}
use Rattle.std.specs.List.{join_with_byte}
use Rattle.std.proofs.lemmas.Bool.{cases_Bool}
use Rattle.std.proofs.lemmas.Bool.Decides.{Decides-eqb}
use Rattle.std.proofs.lemmas.Grind.{flat_map-append}
use Rattle.std.proofs.lemmas.List.{take_more, map-append, at_drop_more, at_drop_all}
use Rattle.std.proofs.lemmas.Slice.Eq.{slice_eq-Decides}
use Rattle.hack_process.specs.CommandTexts.{with_names, spaced_word, each_spaced, is_manifest_path, shown_path, shown_words}
use Rattle.hack_process.specs.Internal.{with_name, pending_option, awaits_path}
use Rattle.hack_process.specs.OwnWords.{shown_own}

-- one more name, after a `,`
join-push : (y : List ℕ) (names : List (List ℕ)) (x : List ℕ) → join_with_byte 44 (y ∷ names ++ x ∷ []) ≡ (join_with_byte 44 (y ∷ names) ++ codes ",") ++ x
join-push y [] x = sym (append_assoc y (codes ",") x)
join-push y (z ∷ names) x =
    let rest = join_with_byte 44 (z ∷ names) in
    ap (λ l. y ++ (44 ∷ l)) (join-push z names x) ∙ sym (append_assoc y (44 ∷ (rest ++ codes ",")) x) ∙ ap (λ l. l ++ x) (sym (append_assoc y (44 ∷ rest) (codes ",")))

-- to append names and one more is to append the names and then the one
pub appended-push : (list : Option (List ℕ)) (names : List (List ℕ)) (x : List ℕ) → with_names list (names ++ x ∷ []) ≡ Some (with_name (with_names list names) x)
appended-push None [] x = refl
appended-push (Some list) [] x = ap Some (join-push list [] x)
appended-push None (y ∷ names) x = ap Some (join-push y names x)
appended-push (Some list) (y ∷ names) x = ap Some (join-push list (y ∷ names) x)

-- the step of a loop over names
pub appended-more : {T : Type 0} (f : T → List ℕ) (list : Option (List ℕ)) (xs : List T) (i : ℕ) (d : T) → i < length xs → with_names list (map f (take (i + 1) xs)) ≡ Some (with_name (with_names list (map f (take i xs))) (f (get_or xs i d)))
appended-more f list xs i d l =
    ap (λ ys. with_names list (map f ys)) (take_more xs i d l) ∙ ap (with_names list) (map-append f (take i xs) (get_or xs i d ∷ [])) ∙ appended-push list (map f (take i xs)) (f (get_or xs i d))

-- an argument that is not `--manifest-path` is shown
pub shown-plain : (full : Bool) (dir word : List ℕ) (words : List (List ℕ)) → is_manifest_path word ≡ false → each_spaced (shown_words full dir (word ∷ words)) ≡ spaced_word word ++ each_spaced (shown_words full dir words)
shown-plain full dir word [] f = refl
shown-plain full dir word (value ∷ words) f = rw f refl

-- what the own arguments that are left show begins with what the next one shows
pub shown-next : (full : Bool) (dir : List ℕ) (awaits : Bool) (word : List ℕ) (words : List (List ℕ))
    → each_spaced (shown_words full dir (pending_option awaits ++ word ∷ words)) ≡ shown_own awaits full dir word ++ each_spaced (shown_words full dir (pending_option (awaits_path awaits word) ++ words))
shown-next full dir true word words = flat_map-append spaced_word (shown_path full dir word) (shown_words full dir words)
shown-next full dir false word words =
    elim (cases_Bool (is_manifest_path word)) as (λ _. each_spaced (shown_words full dir (pending_option false ++ word ∷ words)) ≡ shown_own false full dir word ++ each_spaced (shown_words full dir (pending_option (awaits_path false word) ++ words))) [
      | inl t ↦ rw t (ap (λ w. each_spaced (shown_words full dir (w ∷ words))) ((slice_eq-Decides Decides-eqb word (codes "--manifest-path") _ refl).0 t))
      | inr f ↦ rw f (shown-plain full dir word words f)
    ]

-- the step of a loop over own arguments
pub shown-more : {T : Type 0} (f : T → List ℕ) (full : Bool) (dir : List ℕ) (awaits now : Bool) (word : List ℕ) (xs : List T) (i : ℕ) (d : T) → i < length xs → word ≡ f (get_or xs i d) → now ≡ awaits_path awaits word
    → each_spaced (shown_words full dir (pending_option awaits ++ map f (drop i xs))) ≡ shown_own awaits full dir word ++ each_spaced (shown_words full dir (pending_option now ++ map f (drop (i + 1) xs)))
shown-more f full dir awaits now word xs i d l w a =
    let rest = map f (drop (i + 1) xs) in
    at_drop_more (λ ys. each_spaced (shown_words full dir (pending_option awaits ++ map f ys))) xs i d l
    ∙ ap (λ v. each_spaced (shown_words full dir (pending_option awaits ++ v ∷ rest))) (sym w)
    ∙ shown-next full dir awaits word rest
    ∙ ap (λ b. shown_own awaits full dir word ++ each_spaced (shown_words full dir (pending_option b ++ rest))) (sym a)

-- the end of that loop
pub shown-end : {T : Type 0} (f : T → List ℕ) (full : Bool) (dir : List ℕ) (awaits : Bool) (xs : List T) (i : ℕ) → length xs ≤ i
    → each_spaced (shown_words full dir (pending_option awaits ++ map f (drop i xs))) ≡ each_spaced (pending_option awaits)
shown-end f full dir true xs i l = at_drop_all (λ ys. each_spaced (shown_words full dir (pending_option true ++ map f ys))) xs i l
shown-end f full dir false xs i l = at_drop_all (λ ys. each_spaced (shown_words full dir (pending_option false ++ map f ys))) xs i l

-- the parts of a line, the second and the fourth as lists that were lent
pub line-joined : (a b c d e x y z : List ℕ) → b ≡ y → d ≡ z → a ++ (b ++ (c ++ (d ++ (e ++ x)))) ≡ a ++ y ++ c ++ z ++ e ++ x
line-joined a b c d e x y z p q =
    let grouped : a ++ y ++ c ++ z ++ e ++ x ≡ a ++ (y ++ (c ++ (z ++ (e ++ x)))) = simp append_assoc in
    ap (λ t. a ++ (t ++ (c ++ (d ++ (e ++ x))))) p ∙ ap (λ t. a ++ (y ++ (c ++ (t ++ (e ++ x))))) q ∙ sym grouped
