-- Lemmas on patterns and the sets that show them.
use Rattle.std.proofs.Common.{◌≡◌, ℕ, zero, suc, map, arith, Contains, Any, MatchBool, ◌<◌, List, [], ◌∷◌, ◌++◌, length, get_or, refl, sym, ◌∙◌, ap, subst, Bool, true, false, inl, inr, All, Vec}
use Rattle.std.specs.Prelude.{◌&&◌}
use Rattle.std.specs.List.{AllWithin, HoldsAt}
use Rattle.std.proofs.lemmas.List.{get_or-map, length-map}
use Rattle.std.proofs.lemmas.List.Folds.{list_all_at}
use Rattle.std.proofs.lemmas.List.Elements.{All-cons, All-head, All-tail, All-contains, Contains-push, Contains-append_left, Contains-get_or}
use Rattle.hack_samples.specs.Sets.{has_one_of, has_each, is_on, rows_of}
use Rattle.hack_samples.specs.Internal.{IsClear, Meets, NoneShows}
use Rattle.hack_samples.specs.Samples.{Shows}
use Rattle.hack_samples.specs.declared.sets.Setting.{Setting}
use Rattle.hack_samples.proofs.SetLemmas.{told, not_both, and-true, and-both}
use Rattle.hack_samples.proofs.DemandLemmas.{each-push}

pub all-left : {X : Type 0} (P : X → Type 0) (xs ys : List X) → All P (xs ++ ys) → All P xs
all-left P xs ys h = λ k d lt. All-contains P (xs ++ ys) (get_or xs k d) h (Contains-append_left xs ys (get_or xs k d) (Contains-get_or xs k d lt))

pub all-last : {X : Type 0} (P : X → Type 0) (xs : List X) (x : X) → All P (xs ++ x ∷ []) → P x
all-last P xs x h = All-contains P (xs ++ x ∷ []) x h (Contains-push xs x)

-- an element of what a list is mapped to comes from one of the list
from-map : {X Y : Type 0} (f : X → Y) (xs : List X) (y : Y) → Contains (map f xs) y → Any (λ x. f x ≡ y) xs
from-map f [] y h = absurd (omega (arith, h.1))
from-map f (x ∷ xs) y (zero, lt, is) = (zero, x, omega arith, refl, is)
from-map f (x ∷ xs) y (suc k, lt, is) = let w = from-map f xs y (k, omega (arith, lt), is) in (suc w.0, w.1, omega (arith, w.2), w.3, w.4)

-- whether an element of what a list is mapped to has P, by what `any` told of the list; S says so in other words
pub any-told : {X Y S : Type 0} (f : X → Y) (P : Y → Type 0) (xs : List X) → ((y : Y) → Contains (map f xs) y → P y → S) → (S → (y : Y) × Contains (map f xs) y × P y)
    → (b : Bool) → MatchBool b ((k : ℕ) × (k < length xs) × HoldsAt (λ x. P (f x)) xs k) (AllWithin (λ x. P (f x) → ⊥) xs 0 (length xs)) → MatchBool b S (S → ⊥)
any-told f P [] to from true h = absurd (omega (arith, h.1))
any-told f P (x ∷ xs) to from true h = to (f (get_or (x ∷ xs) h.0 x)) (h.0, omega (arith, h.1, length-map xs f), get_or-map f (x ∷ xs) h.0 x _ h.1) (h.2 x)
any-told f P xs to from false h = λ s.
    let one = from s in
    let w = from-map f xs one.0 one.1 in
    h w.0 w.1 (omega arith) w.2 (subst P (sym (ap f w.3 ∙ w.4)) one.2)

-- the row at a place
pub row-at : {X Z : Type 0} (xs : List (Vec X Z)) (i : ℕ) (v : Vec X Z) → i < length xs → v ≡ get_or xs i v → get_or (rows_of xs) i v.items ≡ v.items
row-at xs i v lt is = get_or-map (λ l. l.items) xs i v v.items lt ∙ ap (λ l. l.items) (sym is)

module _ (may : List Bool → Bool) (n : ℕ) (providers : List (List (List ℕ))) where
  shows-cons : (x : Setting) (rest : List Setting) (t : List Bool) → is_on providers t x.candidate ≡ x.on → Shows providers rest t → Shows providers (x ∷ rest) t
  shows-cons x rest t on shows = All-cons (λ y. is_on providers t y.candidate ≡ y.on) x rest on shows

  shows-head : (x : Setting) (rest : List Setting) (t : List Bool) → Shows providers (x ∷ rest) t → is_on providers t x.candidate ≡ x.on
  shows-head x rest t shows = All-head (λ y. is_on providers t y.candidate ≡ y.on) x rest shows

  shows-tail : (x : Setting) (rest : List Setting) (t : List Bool) → Shows providers (x ∷ rest) t → Shows providers rest t
  shows-tail x rest t shows = All-tail (λ y. is_on providers t y.candidate ≡ y.on) x rest shows

  -- the rows of a candidate that is to be on are groups
  pub on-some : (x : Setting) (rest : List Setting) (groups joined : List (List ℕ)) (banned t : List Bool) → x.on ≡ true
      → has_each t joined ≡ (is_on providers t x.candidate && has_each t groups) → Meets may n joined banned t × Shows providers rest t → Meets may n groups banned t × Shows providers (x ∷ rest) t
  on-some x rest groups joined banned t yes' is h =
      let both = and-true (is_on providers t x.candidate) (has_each t groups) (sym is ∙ h.0.met) in
      (record { suited = h.0.suited; met = both.1 }, shows-cons x rest t (both.0 ∙ sym yes') h.1)

  pub on-none : (x : Setting) (rest : List Setting) (groups joined : List (List ℕ)) (banned : List Bool) → x.on ≡ true
      → ((t : List Bool) → has_each t joined ≡ (is_on providers t x.candidate && has_each t groups)) → NoneShows may n joined banned providers rest → NoneShows may n groups banned providers (x ∷ rest)
  on-none x rest groups joined banned yes' is none t meets shows =
      none t
      (record { suited = meets.suited; met = is t ∙ and-both (is_on providers t x.candidate) (has_each t groups) (shows-head x rest t shows ∙ yes') meets.met })
      (shows-tail x rest t shows)

  -- a row of a candidate that is to be off is banned
  pub off-some : (x : Setting) (rest : List Setting) (groups rows : List (List ℕ)) (row : List ℕ) (banned more t : List Bool) (i : ℕ) → x.on ≡ false
      → i < length rows → get_or rows i row ≡ row → is_on providers t x.candidate ≡ has_each t rows → (IsClear more t → IsClear banned t × (has_one_of t row ≡ false))
      → Meets may n groups more t × Shows providers rest t → Meets may n groups banned t × Shows providers (x ∷ rest) t
  off-some x rest groups rows row banned more t i no' lt at is clear h =
      let parts = clear h.0.suited.clear in (
        record { suited = record { size = h.0.suited.size; allowed = h.0.suited.allowed; clear = parts.0 }; met = h.0.met },
        shows-cons x rest t (is ∙ list_all_at (has_one_of t) rows i row lt (ap (has_one_of t) at ∙ parts.1) ∙ sym no') h.1,
      )

  -- a set that meets all demands but being off has a member of each row that was tried
  pub off-tried : (rest : List Setting) (groups front now : List (List ℕ)) (row : List ℕ) (banned more s : List Bool) → now ≡ front ++ row ∷ []
      → (IsClear banned s × (has_one_of s row ≡ false) → IsClear more s) → NoneShows may n groups more providers rest → Meets may n groups banned s → Shows providers rest s
      → has_each s front ≡ true → has_each s now ≡ true
  off-tried rest groups front now row banned more s is clear none meets shows before =
      ap (has_each s) is ∙ each-push s front row ∙ and-both (has_each s front) (has_one_of s row) before
      (elim (told (has_one_of s row)) [
        | inl on ↦ on
        | inr off ↦ absurd (none s (record { suited = record { size = meets.suited.size; allowed = meets.suited.allowed; clear = clear (meets.suited.clear, off) }; met = meets.met }) shows)
      ])

  pub off-none : (x : Setting) (rest : List Setting) (groups : List (List ℕ)) (banned : List Bool) → x.on ≡ false
      → ((s : List Bool) → Meets may n groups banned s → Shows providers rest s → is_on providers s x.candidate ≡ true) → NoneShows may n groups banned providers (x ∷ rest)
  off-none x rest groups banned no' each s meets shows =
      not_both (each s meets (shows-tail x rest s shows)) (shows-head x rest s shows ∙ no')
