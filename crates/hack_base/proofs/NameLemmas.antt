-- Names, lists of them, and tables of them.
use Rattle.std.proofs.Common.{◌≡◌, ◌≢◌, ℕ, ◌+◌, ◌<◌, ◌≤◌, List, [], ◌∷◌, ◌++◌, length, get_or, take, refl, sym, ◌∙◌, ap, subst, arith, Bool, true, false, Any, Contains, String, string_bytes, append_assoc, not}
use Rattle.std.specs.List.{IsDistinct, list_any, join_with_byte}
use Rattle.std.specs.Cmp.Lexicographic.{nat_list_eq_equiv}
use Rattle.std.specs.Str.{bytes_eq}
use Rattle.std.specs.Borrow.{Bor}
use Rattle.std.proofs.lemmas.Slice.Eq.{bytes_eq-Decides}
use Rattle.std.proofs.lemmas.List.{take_more, get_or-map, length-map, map-append}
use Rattle.std.proofs.lemmas.Map.Views.{list_any-from_Contains, Contains-from_any}
use Rattle.std.proofs.lemmas.Map.Made.{length-le_from_is_member}
use Rattle.hack_base.proofs.Members.{Contains-map, Contains-map_from}
use Rattle.hack_base.specs.Names.{Name, names_of, names_behind}

-- texts that the test finds equal are equal
pub same_text : (x y : Name) → bytes_eq x y ≡ true → x ≡ y
same_text x y h = (bytes_eq-Decides x y).0 h

none_from-step : (names : List Name) (v : Name) (b : Bool) → list_any (bytes_eq v) names ≡ b → ¬ Contains names v → b ≡ false
none_from-step names v true e h = absurd (h (Contains-from_any same_text v names e))
none_from-step names v false e h = refl

-- a search for a name that isn't in the list
pub none_from : (names : List Name) (v : Name) → ¬ Contains names v → list_any (bytes_eq v) names ≡ false
none_from names v h = none_from-step names v (list_any (bytes_eq v) names) refl h

-- distinct names, each of which is among others, are no more than those
pub length-le_from_distinct : (xs ys : List Name) → IsDistinct bytes_eq xs → ((q : Name) → Contains xs q → Contains ys q) → length xs ≤ length ys
length-le_from_distinct xs ys h k = length-le_from_is_member nat_list_eq_equiv xs ys h (λ q e. list_any-from_Contains nat_list_eq_equiv q ys (k q (Contains-from_any same_text q xs e)))

-- the names of one text more
pub names-more : {Y : Type 0} (texts : List (String Y)) (k : ℕ) (t : String Y) → k < length texts → t ≡ get_or texts k t → take (k + 1) (names_of texts) ≡ take k (names_of texts) ++ string_bytes t ∷ []
names-more {Y} texts k t h e =
    take_more (names_of texts) k (string_bytes t) (rw (length-map texts (λ (t : String Y). string_bytes t)) h)
    ∙ ap (λ n. take k (names_of texts) ++ n ∷ []) (get_or-map (λ (t : String Y). string_bytes t) texts k t (string_bytes t) h ∙ ap string_bytes (sym e))

pub length-names : {Y : Type 0} (texts : List (String Y)) → length (names_of texts) ≡ length texts
length-names {Y} texts = length-map texts (λ (t : String Y). string_bytes t)

pub differ : (x y : Name) → bytes_eq x y ≡ false → x ≢ y
differ x y h = λ e. let z : true ≡ false = sym ((bytes_eq-Decides x y).1 e) ∙ h in cc

-- the names behind one reference more
pub shown-more : (refs : List (Bor Name)) (k : ℕ) (r : Bor Name) → k < length refs → r ≡ get_or refs k r → take (k + 1) (names_behind refs) ≡ take k (names_behind refs) ++ r.now ∷ []
shown-more refs k r h e =
    take_more (names_behind refs) k r.now (rw (length-map refs (λ (b : Bor Name). b.now)) h)
    ∙ ap (λ n. take k (names_behind refs) ++ n ∷ []) (get_or-map (λ (b : Bor Name). b.now) refs k r r.now h ∙ ap (λ (b : Bor Name). b.now) (sym e))

pub shown-push : (refs : List (Bor Name)) (r : Bor Name) → names_behind (refs ++ r ∷ []) ≡ names_behind refs ++ r.now ∷ []
shown-push refs r = map-append (λ (b : Bor Name). b.now) refs (r ∷ [])

-- the name behind a reference in a list
pub shown-at : (refs : List (Bor Name)) (k : ℕ) (r : Bor Name) → k < length refs → r ≡ get_or refs k r → r.now ≡ get_or (names_behind refs) k r.now
shown-at refs k r h e = ap (λ (b : Bor Name). b.now) e ∙ sym (get_or-map (λ (b : Bor Name). b.now) refs k r r.now h)

pub length-shown : (refs : List (Bor Name)) → length (names_behind refs) ≡ length refs
length-shown refs = length-map refs (λ (b : Bor Name). b.now)

from_not-step : (b r : Bool) → not b ≡ not r → b ≡ r
from_not-step true true h = refl
from_not-step true false h = let z : false ≡ true = h in cc
from_not-step false true h = let z : true ≡ false = h in cc
from_not-step false false h = refl

-- what a negated test implies
pub from_not_true : {b : Bool} → not b ≡ true → b ≡ false
from_not_true {b} h = from_not-step b false h

pub from_not_false : {b : Bool} → not b ≡ false → b ≡ true
from_not_false {b} h = from_not-step b true h

-- ---- names joined

-- one name more, where it is not the first
pub join-push : (names : List Name) (x : Name) → 0 < length names → join_with_byte 44 (names ++ x ∷ []) ≡ join_with_byte 44 names ++ (44 ∷ x)
join-push [] x h = absurd (omega arith)
join-push (y ∷ []) x h = refl
join-push (y ∷ z ∷ names) x h =
    ap (λ l. y ++ (44 ∷ l)) (join-push (z ∷ names) x (omega arith)) ∙ sym (append_assoc y (44 ∷ join_with_byte 44 (z ∷ names)) (44 ∷ x))

-- ---- texts and references of which one has a name

pub shown-any : (P : Name → Type 0) (refs : List (Bor Name)) → Any (λ ref. P ref.now) refs → (n : Name) × Contains (names_behind refs) n × P n
shown-any P refs h = (h.1.now, Contains-map (λ (b : Bor Name). b.now) refs h.1 (h.0, h.2, h.3), h.4)

pub any-shown : (P : Name → Type 0) (refs : List (Bor Name)) (n : Name) → Contains (names_behind refs) n → P n → Any (λ ref. P ref.now) refs
any-shown P refs n h p = let w = Contains-map_from (λ (b : Bor Name). b.now) refs n h in (w.1.0, w.0, w.1.1, w.1.2, subst P (sym w.2) p)
