-- Lemmas on the sets that a sample needs.
use Rattle.std.proofs.Common.{◌≡◌, ℕ, suc, ◌+◌, ◌-◌, ◌<◌, ◌≤◌, List, [], ◌∷◌, ◌++◌, length, get_or, take, drop, sym, ◌∙◌, ap, subst, arith, drop-cons, Bool, ◌⊎◌, inl, inr, AllPairs, Contains, Vec, true, false, append_assoc, append-nil}
use Rattle.std.specs.Bool.{MatchBool}
use Rattle.std.specs.List.{remove}
use Rattle.std.proofs.lemmas.List.{take-append-drop, take-map, drop-map, map-append, get_or-map, get_or_default, length-map}
use Rattle.std.proofs.lemmas.List.Edits.{length-remove, get_or-remove_below}
use Rattle.std.proofs.lemmas.List.Quantifiers.{all_pairs_remove}
use Rattle.std.proofs.lemmas.List.Elements.{Contains-append_left, Contains-append_right, Contains-append_cases, Contains-push_cases}
use Rattle.hack_samples.specs.Sets.{is_on, rows_of}
use Rattle.hack_samples.specs.Order.{IsMaskBefore}
use Rattle.hack_samples.specs.Samples.{Shows, SomeShows, IsNeeded}
use Rattle.hack_samples.specs.InternalDescendingPatterns.{IsShownBelow, IsAlone, AreShown, AreKept}
use Rattle.hack_samples.specs.declared.sets.Setting.{Setting}
use Rattle.hack_samples.proofs.ShowLemmas.{all-left, all-last}
use Rattle.hack_samples.proofs.OrderLemmas.{three}
use Rattle.hack_samples.proofs.CoverLemmas.{sorted}

pub match_turned : (b : Bool) (P Q R S : Type 0) → (P → R) → (Q → S) → MatchBool b P Q → MatchBool b R S
match_turned true P Q R S f g h = f h
match_turned false P Q R S f g h = g h

pub match-false : (b : Bool) (P Q : Type 0) → b ≡ false → MatchBool b P Q → Q
match-false b P Q is h = subst (λ x. MatchBool x P Q) is h

pub match-true : (b : Bool) (P Q : Type 0) → b ≡ true → MatchBool b P Q → P
match-true b P Q is h = subst (λ x. MatchBool x P Q) is h

pub rows-remove : {X Z : Type 0} (vs : List (Vec X Z)) (i : ℕ) → rows_of (take i vs) ++ rows_of (drop (suc i) vs) ≡ remove (rows_of vs) i
rows-remove vs i = ap (λ l. l ++ rows_of (drop (suc i) vs)) (sym (take-map (λ v. v.items) i vs)) ∙ ap (λ l. take i (rows_of vs) ++ l) (sym (drop-map (λ v. v.items) (suc i) vs))

pub rows-removed : {X Z : Type 0} (vs : List (Vec X Z)) (i : ℕ) → rows_of (remove vs i) ≡ remove (rows_of vs) i
rows-removed vs i = map-append (λ v. v.items) (take i vs) (drop (suc i) vs) ∙ rows-remove vs i

-- the row at a place, with any default
pub row-any : {Z : Type 0} (vs : List (Vec Bool Z)) (i : ℕ) (v : Vec Bool Z) → i < length vs → v ≡ get_or vs i v → get_or (rows_of vs) i [] ≡ v.items
row-any vs i v lt is = get_or-map (λ l. l.items) vs i v [] lt ∙ ap (λ l. l.items) (sym is)

module _ (providers : List (List (List ℕ))) where
  pub some-right : (pattern : List Setting) (xs ys : List (List Bool)) → SomeShows providers pattern ys → SomeShows providers pattern (xs ++ ys)
  some-right pattern xs ys h = record { by = h.by; chosen = Contains-append_right xs ys h.by h.chosen; shows = h.shows }

  pub none-both : (pattern : List Setting) (xs ys : List (List Bool)) → (SomeShows providers pattern xs → ⊥) → (SomeShows providers pattern ys → ⊥) → SomeShows providers pattern (xs ++ ys) → ⊥
  none-both pattern xs ys left right h =
      elim (Contains-append_cases xs ys h.by h.chosen) [
        | inl w ↦ left (record { by = h.by; chosen = w; shows = h.shows })
        | inr w ↦ right (record { by = h.by; chosen = w; shows = h.shows })
      ]

  module _ (s : List Bool) (others : List (List Bool)) where
    -- patterns that continue by one more candidate, as s does
    pub own-step : (pattern : List Setting) (candidate more : ℕ) (on : Bool) → on ≡ is_on providers s candidate
        → ((x : Setting) → x.candidate < candidate → IsShownBelow providers s (pattern ++ x ∷ []) x.candidate more others)
        → IsShownBelow providers s (pattern ++ record { candidate = candidate; on = on } ∷ []) candidate more others
        → (x : Setting) → x.candidate < candidate + 1 → IsShownBelow providers s (pattern ++ x ∷ []) x.candidate more others
    own-step pattern candidate more on is before now x lt =
        let at : ℕ → Bool → Type 0 = λ f b. IsShownBelow providers s (pattern ++ record { candidate = f; on = b } ∷ []) f more others in
        let S : Setting → Type 0 = λ y. is_on providers s y.candidate ≡ y.on in
        elim (three x.candidate candidate) [
          | inl less ↦ before x less
          | inr w ↦ elim w [
            | inr more' ↦ absurd (omega arith)
            | inl same ↦ λ rest descends few shows.
                let own : is_on providers s x.candidate ≡ x.on = all-last S pattern x (all-left S (pattern ++ x ∷ []) rest shows) in
                subst (λ b. at x.candidate b) (is ∙ ap (is_on providers s) (sym same) ∙ own) (subst (λ f. at f on) (sym same) now) rest descends few shows
          ]
        ]

    pub own-all : (pattern : List Setting) (limit more : ℕ) → SomeShows providers pattern others
        → ((x : Setting) → x.candidate < limit → 0 < more → IsShownBelow providers s (pattern ++ x ∷ []) x.candidate (more - 1) others) → IsShownBelow providers s pattern limit more others
    own-all pattern limit more here each [] descends few shows = subst (λ p. SomeShows providers p others) (sym (append-nil pattern)) here
    own-all pattern limit more here each (x ∷ rest) descends few shows =
        subst (λ p. SomeShows providers p others) (append_assoc pattern (x ∷ []) rest)
        (each x descends.0 (omega arith) rest descends.1 (omega arith) (subst (λ p. Shows providers p s) (sym (append_assoc pattern (x ∷ []) rest)) shows))

    -- what is shown in descending order is shown
    pub own-whole : (t : ℕ) → IsShownBelow providers s [] (length providers) t others → (pattern : List Setting) → length pattern ≤ t → Shows providers pattern s → SomeShows providers pattern others
    own-whole t below pattern few shows =
        let order = sorted providers s pattern shows in
        let few' : length order.all ≤ length pattern = order.few in
        let found = below order.all order.descends (omega arith) order.shows in
        record { by = found.by; chosen = found.chosen; shows = order.tells found.by found.shows }

module _ {X : Type 0} (xs : List X) (i : ℕ) where
  -- an element is the one at a place or one of the others
  pub at-or-other : (d x : X) → i < length xs → Contains xs x → (x ≡ get_or xs i d) ⊎ Contains (remove xs i) x
  at-or-other d x lt h =
      elim (Contains-append_cases (take i xs) (drop i xs) x (subst (λ l. Contains l x) (sym (take-append-drop i xs)) h)) [
        | inl w ↦ inr (Contains-append_left (take i xs) (drop (suc i) xs) x w)
        | inr w ↦ elim (Contains-append_cases (get_or xs i d ∷ []) (drop (suc i) xs) x (subst (λ l. Contains l x) (drop-cons xs i d lt) w)) [
          | inl v ↦ elim (Contains-push_cases [] (get_or xs i d) x v) [ inl none ↦ absurd (omega (arith, none.1)) | inr e ↦ inl (sym e) ]
          | inr v ↦ inr (Contains-append_right (take i xs) (drop (suc i) xs) x v)
        ]
      ]

  pub other-is-one : (x : X) → Contains (remove xs i) x → Contains xs x
  other-is-one x h =
      elim (Contains-append_cases (take i xs) (drop (suc i) xs) x h) [
        | inl w ↦ subst (λ l. Contains l x) (take-append-drop i xs) (Contains-append_left (take i xs) (drop i xs) x w)
        | inr w ↦ subst (λ l. Contains l x) (take-append-drop (suc i) xs) (Contains-append_right (take (suc i) xs) (drop (suc i) xs) x w)
      ]

module _ (providers : List (List (List ℕ))) (t : ℕ) where
  -- a set that is alone among the others is needed
  pub needed-alone : (sets : List (List Bool)) (i : ℕ) → i < length sets → IsAlone providers t (get_or sets i []) (remove sets i) → IsNeeded providers t sets (get_or sets i [])
  needed-alone sets i lt h = record {
    pattern = h.pattern;
    few = h.few;
    shows = h.shows;
    alone = λ r c shows. elim (at-or-other sets i [] r lt c) [ inl e ↦ e | inr w ↦ absurd (h.none (record { by = r; chosen = w; shows = shows })) ];
  }

  -- a set stays needed among fewer
  pub needed-fewer : (sets fewer : List (List Bool)) → ((r : List Bool) → Contains fewer r → Contains sets r) → (s : List Bool) → IsNeeded providers t sets s → IsNeeded providers t fewer s
  needed-fewer sets fewer kept s h = record { pattern = h.pattern; few = h.few; shows = h.shows; alone = λ r c shows. h.alone r (kept r c) shows }

  -- without a set that isn't needed, each pattern is still shown
  pub shown-without : (sets : List (List Bool)) (i : ℕ) → i < length sets
      → ((pattern : List Setting) → length pattern ≤ t → Shows providers pattern (get_or sets i []) → SomeShows providers pattern (remove sets i)) → AreShown providers t sets (remove sets i)
  shown-without sets i lt each pattern few h =
      elim (at-or-other sets i [] h.by lt h.chosen) [
        | inl e ↦ each pattern few (subst (Shows providers pattern) e h.shows)
        | inr w ↦ record { by = h.by; chosen = w; shows = h.shows }
      ]

-- the sets that are left of the first ones once those before the place were looked at
pub record AreLeft (providers : List (List (List ℕ))) (t : ℕ) (first sets : List (List Bool)) (place : ℕ) : Type 0 where
  pub within : place ≤ length sets
  pub needed : (k : ℕ) (d : List Bool) → k < place → IsNeeded providers t sets (get_or sets k d)
  pub shown : AreShown providers t first sets
  pub only : AreKept sets first
  pub ordered : AllPairs IsMaskBefore first → AllPairs IsMaskBefore sets

module _ (providers : List (List (List ℕ))) (t : ℕ) (first : List (List Bool)) where
  pub left-kept : (sets : List (List Bool)) (place : ℕ) → place < length sets → AreLeft providers t first sets place → IsNeeded providers t sets (get_or sets place []) → AreLeft providers t first sets (place + 1)
  left-kept sets place lt h now = record {
    within = omega arith;
    needed = λ k d below. elim (three k place) [
      | inl less ↦ h.needed k d less
      | inr w ↦ elim w [
        | inl e ↦ subst (IsNeeded providers t sets) (ap (λ j. get_or sets j []) (sym e) ∙ get_or_default sets k [] d (omega arith)) now
        | inr more ↦ absurd (omega arith)
      ]
    ];
    shown = h.shown;
    only = h.only;
    ordered = h.ordered;
  }

  pub left-without : (sets : List (List Bool)) (place : ℕ) → place < length sets → AreLeft providers t first sets place
      → ((pattern : List Setting) → length pattern ≤ t → Shows providers pattern (get_or sets place []) → SomeShows providers pattern (remove sets place)) → AreLeft providers t first (remove sets place) place
  left-without sets place lt h each = record {
    within = omega (arith, length-remove sets place lt);
    needed = λ k d below.
        subst (IsNeeded providers t (remove sets place)) (sym (get_or-remove_below sets place d k below lt))
        (needed-fewer providers t sets (remove sets place) (other-is-one sets place) (get_or sets k d) (h.needed k d below));
    shown = λ pattern few some. shown-without providers t sets place lt each pattern few (h.shown pattern few some);
    only = λ s c. h.only s (other-is-one sets place s c);
    ordered = λ pairs. all_pairs_remove IsMaskBefore sets place lt (h.ordered pairs);
  }

-- what is asked of a set beside the others, at its row
module _ {Z : Type 0} (providers : List (List (List ℕ))) (t : ℕ) (vs : List (Vec Bool Z)) (i : ℕ) (v : Vec Bool Z) (s : List Bool) (lt : i < length vs) (is : v ≡ get_or vs i v) (same : s ≡ v.items) where
  at-row : s ≡ get_or (rows_of vs) i []
  at-row = same ∙ sym (row-any vs i v lt is)

  below-rows : i < length (rows_of vs)
  below-rows = subst (λ n. i < n) (sym (length-map vs (λ l. l.items))) lt

  pub needed-row : IsAlone providers t s (rows_of (take i vs) ++ rows_of (drop (suc i) vs)) → IsNeeded providers t (rows_of vs) (get_or (rows_of vs) i [])
  needed-row h =
      needed-alone providers t (rows_of vs) i below-rows
      (subst (λ l. IsAlone providers t l (remove (rows_of vs) i)) at-row (subst (IsAlone providers t s) (rows-remove vs i) h))

  pub shown-row : IsShownBelow providers s [] (length providers) t (rows_of (take i vs) ++ rows_of (drop (suc i) vs))
      → (pattern : List Setting) → length pattern ≤ t → Shows providers pattern (get_or (rows_of vs) i []) → SomeShows providers pattern (remove (rows_of vs) i)
  shown-row h pattern few shows =
      subst (SomeShows providers pattern) (rows-remove vs i)
      (own-whole providers s (rows_of (take i vs) ++ rows_of (drop (suc i) vs)) t h pattern few (subst (Shows providers pattern) (sym at-row) shows))
