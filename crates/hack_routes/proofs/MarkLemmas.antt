-- Places marked by a search, and what chains of links lead to.
use Rattle.std.proofs.Common.{◌≡◌, ◌≢◌, ℕ, zero, suc, ◌+◌, ◌<◌, ◌≤◌, List, [], ◌∷◌, ◌++◌, length, get_or, set, replicate, refl, sym, ◌∙◌, ap, subst, arith, Bool, true, false, ◌⊎◌, inl, inr, ◌↔◌, IsTrue, All, Contains, length-append, append_assoc, Vec}
use Rattle.std.proofs.Math.ListN.{get_or-append}
use Rattle.std.proofs.lemmas.List.{get_or_default, get_or-map, length-map}
use Rattle.std.proofs.lemmas.List.Elements.{Contains-append_left, Contains-push, Contains-push_cases, Contains-get_or, All-contains}
use Rattle.std.specs.Prelude.{◌==◌, ◌||◌}
use Rattle.std.proofs.lemmas.Bool.{cases_eq}
use Rattle.std.proofs.lemmas.Bool.Decides.{eqb_tells}
use Rattle.hack_base.proofs.Members.{lt_or_same, Contains-nil}
use Rattle.hack_routes.proofs.ReachLemmas.{Chain-snoc, Chain-kept}
use Rattle.hack_routes.specs.FeatureMap.{Chain, here, step}
use Rattle.hack_samples.specs.Sets.{rows_of}
use Rattle.hack_routes.specs.Rows.{bit}
use Rattle.hack_routes.specs.InternalPlaces.{Leads, AddsPlaces, AreMarked, ones}

-- ---- marks

bit-set_here : (marks : List Bool) (place : ℕ) → place < length marks → bit (set marks place true) place ≡ true
bit-set_here [] place lt = absurd (omega arith)
bit-set_here (b ∷ marks) zero lt = refl
bit-set_here (b ∷ marks) (suc place) lt = bit-set_here marks place (omega arith)

bit-set_other : (marks : List Bool) (place other : ℕ) → other ≢ place → bit (set marks place true) other ≡ bit marks other
bit-set_other [] place other ne = refl
bit-set_other (b ∷ marks) zero zero ne = absurd (ne refl)
bit-set_other (b ∷ marks) zero (suc other) ne = refl
bit-set_other (b ∷ marks) (suc place) zero ne = refl
bit-set_other (b ∷ marks) (suc place) (suc other) ne = bit-set_other marks place other (λ e. ne (ap suc e))

ones-set : (marks : List Bool) (place : ℕ) → place < length marks → bit marks place ≡ false → ones (set marks place true) ≡ ones marks + 1
ones-set [] place lt e = absurd (omega arith)
ones-set (true ∷ marks) zero lt e = absurd (let z : true ≡ false = e in cc)
ones-set (false ∷ marks) zero lt e = omega arith
ones-set (true ∷ marks) (suc place) lt e = let r = ones-set marks place (omega arith) e in omega arith
ones-set (false ∷ marks) (suc place) lt e = let r = ones-set marks place (omega arith) e in omega arith

pub ones-few : (marks : List Bool) → ones marks ≤ length marks
ones-few [] = omega arith
ones-few (true ∷ marks) = let r = ones-few marks in omega arith
ones-few (false ∷ marks) = let r = ones-few marks in omega arith

bit-clear : (n place : ℕ) → bit (replicate n false) place ≡ false
bit-clear zero place = refl
bit-clear (suc n) zero = refl
bit-clear (suc n) (suc place) = bit-clear n place

ones-clear : (n : ℕ) → ones (replicate n false) ≡ 0
ones-clear zero = refl
ones-clear (suc n) = let r = ones-clear n in omega arith

pub marked-none : (n : ℕ) → AreMarked (replicate n false) []
marked-none n = record {
  told = λ place. (λ e. let z : false ≡ true = sym (bit-clear n place) ∙ e in cc, λ c. absurd (Contains-nil place c));
  count = sym (ones-clear n);
}

pub marked-more : (marks : List Bool) (order : List ℕ) (place : ℕ) → AreMarked marks order → place < length marks → bit marks place ≡ false → AreMarked (set marks place true) (order ++ place ∷ [])
marked-more marks order place h lt e = record {
  told = λ other. elim (cases_eq other place) [
    | inl s ↦ (
      λ t. subst (Contains (order ++ place ∷ [])) (sym s) (Contains-push order place),
      λ c. subst (λ p. bit (set marks place true) p ≡ true) (sym s) (bit-set_here marks place lt),
    )
    | inr n ↦ (
      λ t. Contains-append_left order (place ∷ []) other ((h.told other).0 (sym (bit-set_other marks place other n) ∙ t)),
      λ c. bit-set_other marks place other n ∙ elim (Contains-push_cases order place other c) [ inl w ↦ (h.told other).1 w | inr s ↦ absurd (n (sym s)) ],
    )
  ];
  count = omega (arith, length-append order (place ∷ []), ones-set marks place lt e, h.count);
}

pub marked-few : (marks : List Bool) (order : List ℕ) → AreMarked marks order → length order ≤ length marks
marked-few marks order h = omega (arith, h.count, ones-few marks)

-- the row at a place
pub row_at : {Z : Type 0} (rows : List (Vec ℕ Z)) (place : ℕ) (row : Vec ℕ Z) → place < length rows → row ≡ get_or rows place row → get_or (rows_of rows) place [] ≡ row.items
row_at {Z} rows place row lt e =
    get_or_default (rows_of rows) place [] row.items (omega (arith, length-map rows (λ (r : Vec ℕ Z). r.items)))
    ∙ get_or-map (λ (r : Vec ℕ Z). r.items) rows place row row.items lt ∙ ap (λ (r : Vec ℕ Z). r.items) (sym e)

-- rows that lead nowhere else
pub inside_of : (n : ℕ) (rows : List (List ℕ)) → length rows ≡ n → All (All (λ place. place < n)) rows → (i j : ℕ) → i < n → Leads rows i j → j < n
inside_of n rows e h i j lt c = All-contains (λ place. place < n) (get_or rows i []) j (h i [] (omega arith)) c

-- ---- what is added

pub places-one : (old : List ℕ) (place : ℕ) → AddsPlaces (λ j. place ≡ j) old (old ++ place ∷ [])
places-one old place = record {
  kept = (place ∷ [], refl);
  added = λ j e. subst (Contains (old ++ place ∷ [])) e (Contains-push old place);
  only = λ j c. Contains-push_cases old place j c;
}

-- one place more
pub places-next : (done : List ℕ) (place : ℕ) (a b c : List ℕ) → AddsPlaces (Contains done) a b → AddsPlaces (λ j. place ≡ j) b c → AddsPlaces (Contains (done ++ place ∷ [])) a c
places-next done place a b c f g = record {
  kept = (f.kept.0 ++ g.kept.0, g.kept.1 ∙ ap (λ l. l ++ g.kept.0) f.kept.1 ∙ append_assoc a f.kept.0 g.kept.0);
  added = λ j w. elim (Contains-push_cases done place j w) [
    | inl v ↦ subst (λ l. Contains l j) (sym g.kept.1) (Contains-append_left b g.kept.0 j (f.added j v))
    | inr e ↦ g.added j e
  ];
  only = λ j w. elim (g.only j w) [
    | inl v ↦ elim (f.only j v) [ inl u ↦ inl u | inr u ↦ inr (Contains-append_left done (place ∷ []) j u) ]
    | inr e ↦ inr (subst (Contains (done ++ place ∷ [])) e (Contains-push done place))
  ];
}

-- ---- the search

get_or-is : (order : List ℕ) (a : ℕ) (w : Contains order a) → get_or order w.0 0 ≡ a
get_or-is order a w = get_or_default order w.0 0 a w.1 ∙ w.2

-- the places found, of which those before next have been looked at
pub record Marking (rows : List (List ℕ)) (start : ℕ) (order : List ℕ) (next : ℕ) : Type 0 where
  pub first : Contains order start
  pub sound : (j : ℕ) → Contains order j → Chain (Leads rows) start j
  pub closed : (i : ℕ) → i < next → (j : ℕ) → Leads rows (get_or order i 0) j → Contains order j
  pub below : (j : ℕ) → Contains order j → j < length rows
  pub within : next ≤ length order

pub marking-start : (rows : List (List ℕ)) (start : ℕ) (order : List ℕ) → start < length rows → AddsPlaces (λ j. start ≡ j) [] order → Marking rows start order 0
marking-start rows start order lt a = record {
  first = a.added start refl;
  sound = λ j c. elim (a.only j c) [ inl w ↦ absurd (Contains-nil j w) | inr e ↦ subst (Chain (Leads rows) start) e here ];
  closed = λ i l. absurd (omega arith);
  below = λ j c. elim (a.only j c) [ inl w ↦ absurd (Contains-nil j w) | inr e ↦ subst (λ p. p < length rows) e lt ];
  within = omega arith;
}

pub marking-next : (rows : List (List ℕ)) (start : ℕ) (order new : List ℕ) (next : ℕ) → ((i j : ℕ) → i < length rows → Leads rows i j → j < length rows) → Marking rows start order next → next < length order
    → AddsPlaces (Contains (get_or rows (get_or order next 0) [])) order new → Marking rows start new (next + 1)
marking-next rows start order new next inside h lt a =
    let place = get_or order next 0 in
    let there : Contains order place = Contains-get_or order next 0 lt in
    let keep : (j : ℕ) → Contains order j → Contains new j = λ j c. subst (λ l. Contains l j) (sym a.kept.1) (Contains-append_left order a.kept.0 j c) in
    let front : (i : ℕ) → i < length order → get_or new i 0 ≡ get_or order i 0 = λ i l. ap (λ l. get_or l i 0) a.kept.1 ∙ get_or-append order a.kept.0 0 i l in
    record {
      first = keep start h.first;
      sound = λ j c. elim (a.only j c) [ inl w ↦ h.sound j w | inr w ↦ Chain-snoc (h.sound place there) w ];
      closed = λ i l j w. elim (lt_or_same i next l) [
        | inl v ↦ keep j (h.closed i v j (subst (λ p. Leads rows p j) (front i (omega arith)) w))
        | inr e ↦ a.added j (subst (λ p. Leads rows p j) (front i (omega arith) ∙ ap (λ k. get_or order k 0) e) w)
      ];
      below = λ j c. elim (a.only j c) [ inl w ↦ h.below j w | inr w ↦ inside place j (h.below place there) w ];
      within = omega (arith, ap length a.kept.1, length-append order a.kept.0);
    }

pub marking-end : (rows : List (List ℕ)) (start : ℕ) (marks : List Bool) (order : List ℕ) (next : ℕ) → Marking rows start order next → length order ≤ next → AreMarked marks order → (j : ℕ) → IsTrue (bit marks j) ↔ Chain (Leads rows) start j
marking-end rows start marks order next h all told j = (
  λ t. h.sound j ((told.told j).0 t),
  λ c. (told.told j).1 (Chain-kept (λ a. Contains order a) (λ a b w e. h.closed w.0 (omega (arith, w.1)) b (subst (λ p. Leads rows p b) (sym (get_or-is order a w)) e)) c h.first),
)

-- ---- what chains lead to, with the place itself as a case of its own

or_with : (a b : Bool) → b ≡ true → (a || b) ≡ true
or_with true b e = refl
or_with false b e = e

or_told : (place j : ℕ) (b : Bool) → IsTrue (place == j || b) → (place ≡ j) ⊎ IsTrue b
or_told place j b t = elim (eqb_tells place j) [ inl w ↦ inl w.1 | inr w ↦ inr (sym (ap (λ u. u || b) w.0) ∙ t) ]

same_or : (place j : ℕ) (b : Bool) → (place ≡ j) ⊎ IsTrue b → IsTrue (place == j || b)
same_or place j b h = elim h [
  | inl e ↦ ap (λ t. t || b) (let t : place == j ≡ true = elim (eqb_tells place j) [ inl w ↦ w.0 | inr w ↦ absurd (w.1 e) ] in t)
  | inr t ↦ or_with (place == j) b t
]

led_to : (rows : List (List ℕ)) (place j : ℕ) (e : get_or rows place [] ≡ []) → Chain (Leads rows) place j → place ≡ j
led_to rows place j e here = refl
led_to rows place j e (step {x} {y} {z} d c) = absurd (Contains-nil y (subst (λ row. Contains row y) e d))

pub led_nowhere : (rows : List (List ℕ)) (place : ℕ) → get_or rows place [] ≡ [] → (j : ℕ) → IsTrue (place == j || bit [] j) ↔ Chain (Leads rows) place j
led_nowhere rows place e j = (
  λ t. elim (or_told place j (bit [] j) t) [ inl s ↦ subst (Chain (Leads rows) place) s here | inr f ↦ absurd (let z : false ≡ true = f in cc) ],
  λ c. same_or place j (bit [] j) (inl (led_to rows place j e c)),
)

pub led_on : (rows : List (List ℕ)) (place : ℕ) (marks : List Bool) → ((j : ℕ) → IsTrue (bit marks j) ↔ Chain (Leads rows) place j) → (j : ℕ) → IsTrue (place == j || bit marks j) ↔ Chain (Leads rows) place j
led_on rows place marks h j = (
  λ t. elim (or_told place j (bit marks j) t) [ inl s ↦ subst (Chain (Leads rows) place) s here | inr f ↦ (h j).0 f ],
  λ c. same_or place j (bit marks j) (inr ((h j).1 c)),
)

pub nil_from : {X : Type 0} (xs : List X) → length xs ≡ 0 → xs ≡ []
nil_from [] e = refl
nil_from (x ∷ xs) e = absurd (omega arith)
