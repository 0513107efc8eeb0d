-- The strengths of packages, each once.
use Rattle.std.proofs.Common.{◌≡◌, ◌∙◌, ◌+◌, ◌<◌, ◌++◌, ◌∷◌, [], ℕ, Bool, List, Option, None, Some, ap, append-nil, drop, false, get_or, length, refl, string_bytes, subst, sym, take, true}
use Rattle.std.specs.Prelude.{◌||◌, ◌==◌, filter, map, not, if◌then◌else◌}
use Rattle.std.specs.List.{list_any}
use Rattle.std.proofs.lemmas.Bool.{eq-eqb, eqb-true as eqb-eq}
use Rattle.std.proofs.lemmas.List.{drop_more, take_more}
use Rattle.std.proofs.lemmas.List.Elements.{filter-append}
use Rattle.std.proofs.lemmas.Map.Views.{any-filter_same}
use Rattle.hack_base.specs.Notes.{note_of}
use Rattle.hack_base.specs.Streams.{Stream, WritesAll, WritesText}
use Rattle.hack_base.specs.declared.notice.Notice.{Notice}
use Rattle.hack_report.specs.Explained.{each_strength, with_strength}
use Rattle.hack_term.specs.Lines.{info_line}
use Rattle.hack_term.specs.declared.term.Coloring.{Coloring}

-- a strength differs from another
abbrev differs : ℕ → ℕ → Bool
differs t u = not (u == t)

differs-hit : (s t k : ℕ) → (t == s) ≡ false → (k == s) ≡ true → differs t k ≡ true
differs-hit s t k ne hit = ap (λ (n : ℕ). not (n == t)) (eqb-eq k s hit) ∙ ap not (flip (s == t) refl)
  where
    flip : (b : Bool) → (s == t) ≡ b → (s == t) ≡ false
    flip false e = e
    flip true e = let same : (t == s) ≡ true = eq-eqb t s (sym (eqb-eq s t e)) in absurd (cc (ne, same))

-- one more strength is left out where it was there before
each-more : (xs : List (Option ℕ)) (s : ℕ) → each_strength (xs ++ Some s ∷ []) ≡ (if list_any (λ t. t == s) (each_strength xs) then each_strength xs else (each_strength xs ++ s ∷ []))
each-more [] s = refl
each-more (None ∷ xs) s = each-more xs s
each-more (Some t ∷ xs) s = ap (λ (l : List ℕ). t ∷ filter (differs t) l) (each-more xs s) ∙ go (list_any (λ u. u == s) (each_strength xs)) refl (t == s) refl
  where
    E : List ℕ
    E = each_strength xs

    still : (t == s) ≡ false → list_any (λ u. u == s) (filter (differs t) E) ≡ list_any (λ u. u == s) E
    still ne = any-filter_same (λ u. u == s) (differs t) true (λ k hit. differs-hit s t k ne hit) E

    go : (b : Bool) → list_any (λ u. u == s) E ≡ b → (c : Bool) → (t == s) ≡ c
        → t ∷ filter (differs t) (if b then E else (E ++ s ∷ [])) ≡ (if (c || list_any (λ u. u == s) (filter (differs t) E)) then t ∷ filter (differs t) E else (t ∷ filter (differs t) E ++ s ∷ []))
    go true there true same = refl
    go true there false ne = sym (ap (λ (b : Bool). if b then t ∷ filter (differs t) E else (t ∷ filter (differs t) E ++ s ∷ [])) (still ne ∙ there))
    go false new true same =
        let gone : differs t s ≡ false = ap not (eq-eqb s t (sym (eqb-eq t s same))) in
        ap (λ (l : List ℕ). t ∷ l) (filter-append (differs t) E (s ∷ []) ∙ ap (λ (b : Bool). filter (differs t) E ++ (if b then s ∷ [] else [])) gone ∙ append-nil (filter (differs t) E))
    go false new false ne =
        let kept : differs t s ≡ true = differs-hit s t s ne (eq-eqb s s refl) in
        ap (λ (l : List ℕ). t ∷ l) (filter-append (differs t) E (s ∷ []) ∙ ap (λ (b : Bool). filter (differs t) E ++ (if b then s ∷ [] else [])) kept)
        ∙ sym (ap (λ (b : Bool). if b then t ∷ filter (differs t) E else (t ∷ filter (differs t) E ++ s ∷ [])) (still ne ∙ new))

each-none : (xs : List (Option ℕ)) → each_strength (xs ++ None ∷ []) ≡ each_strength xs
each-none [] = refl
each-none (None ∷ xs) = each-none xs
each-none (Some t ∷ xs) = ap (λ (l : List ℕ). t ∷ filter (differs t) l) (each-none xs)

-- those of one package more
pub strength_next : (xs : List (Option ℕ)) (k : ℕ) (d one : Option ℕ) (each new : List ℕ) → k < length xs → one ≡ get_or xs k d → new ≡ with_strength one each → each ≡ each_strength (take k xs) → new ≡ each_strength (take (k + 1) xs)
strength_next xs k d one each new lt is added before =
    added ∙ ap (with_strength one) before ∙ go one ∙ sym (ap each_strength (take_more xs k d lt ∙ ap (λ (o : Option ℕ). take k xs ++ o ∷ []) (sym is)))
  where
    go : (o : Option ℕ) → with_strength o (each_strength (take k xs)) ≡ each_strength (take k xs ++ o ∷ [])
    go None = sym (each-none (take k xs))
    go (Some s) = sym (each-more (take k xs) s)

-- one notice more
pub notes_more : (coloring : Coloring) (notices : List Notice) (k : ℕ) (d one : Notice) (old mid end : Stream) → k < length notices → one ≡ get_or notices k d
    → WritesText (info_line coloring (string_bytes one.text)) old mid → WritesAll (map (λ note. info_line coloring note.text) (map note_of (drop (k + 1) notices))) mid end
    → WritesAll (map (λ note. info_line coloring note.text) (map note_of (drop k notices))) old end
notes_more coloring notices k d one old mid end lt is wrote more =
    subst (λ l. WritesAll (map (λ note. info_line coloring note.text) (map note_of l)) old end) (sym (drop_more notices k d lt))
    (subst (λ n. WritesAll (map (λ note. info_line coloring note.text) (map note_of (n ∷ drop (k + 1) notices))) old end) is (mid, wrote, more))
