-- Packages in slots.
use Rattle.std.specs.Prelude.{ℕ, suc, ◌≡◌, ◌<◌, ◌≤◌, ◌+◌, List, [], ◌∷◌, ◌++◌, All, Contains, length, map, take}
use Rattle.std.specs.List.{flat_map, range_with_len}
use Rattle.std.proofs.Common.{sym, ap, ◌∙◌, arith, drop, get_or, subst}
use Rattle.std.proofs.lemmas.List.{append_assoc, get_or-map, length-map, length-take-le, map-append, take-append-drop, take_more}
use Rattle.std.proofs.lemmas.List.Elements.{All-append, All-cons, All-contains, All-contains_itself, All-head, All-map, All-nil, All-tail}
use Rattle.hack_metadata.specs.RecordViews.{place_at}
use Rattle.hack_metadata.specs.declared.metadata.PackageId.{PackageId}
use Rattle.hack_hunt.specs.Hunts.{Spot, placed, spots_of}
use Rattle.hack_hunt.specs.SpotView.{spot_view}
use Rattle.hack_hunt.specs.declared.spots.Spot.{Spot as Declared}

placed-push : (slot first : ℕ) (ids : List ℕ) (id : ℕ) → placed slot first (ids ++ id ∷ []) ≡ placed slot first ids ++ record { id = id; slot = slot; member = first + length ids } ∷ []
placed-push slot first [] id = ap (λ (n : ℕ). record { id = id; slot = slot; member = n } ∷ []) (let e : first ≡ first + 0 = omega arith in e)
placed-push slot first (x ∷ ids) id =
    ap (λ (l : List Spot). record { id = x; slot = slot; member = first } ∷ l)
    (placed-push slot (first + 1) ids id ∙ ap (λ (n : ℕ). placed slot (first + 1) ids ++ record { id = id; slot = slot; member = n } ∷ []) (let e : (first + 1) + length ids ≡ first + suc (length ids) = omega arith in e))

-- the spot of one package more
pub placed-more : (slot : ℕ) (ids : List PackageId) (k : ℕ) (d : PackageId) → k < length ids → (old mid new : List Spot)
    → new ≡ mid ++ record { id = (get_or ids k d).index; slot = slot; member = k } ∷ [] → mid ≡ old ++ placed slot 0 (map place_at (take k ids)) → new ≡ old ++ placed slot 0 (map place_at (take (k + 1) ids))
placed-more slot ids k d lt old mid new grown before =
    let here : map place_at (take (k + 1) ids) ≡ map place_at (take k ids) ++ (get_or ids k d).index ∷ [] = ap (map place_at) (take_more ids k d lt) ∙ map-append place_at (take k ids) (get_or ids k d ∷ []) in
    let long : length (map place_at (take k ids)) ≡ k = length-map (take k ids) place_at ∙ length-take-le k ids (omega (arith, lt)) in
    let many : 0 + length (map place_at (take k ids)) ≡ k = omega (arith, long) in
    grown ∙ ap (λ l. l ++ record { id = (get_or ids k d).index; slot = slot; member = k } ∷ []) before
    ∙ append_assoc old (placed slot 0 (map place_at (take k ids))) _
    ∙ ap (λ (l : List Spot). old ++ l) (
    ap (λ (n : ℕ). placed slot 0 (map place_at (take k ids)) ++ record { id = (get_or ids k d).index; slot = slot; member = n } ∷ []) (sym many)
    ∙ sym (placed-push slot 0 (map place_at (take k ids)) (get_or ids k d).index)
    ∙ ap (placed slot 0) (sym here)
    )

-- the value that stands for a spot beyond the last
abbrev pub no_spot : Declared
no_spot = record { id = record { index = 0 }; slot = 0; member = 0 }

-- a spot is of one of these packages
pub record IsOf (ids : List ℕ) (s : Spot) : Type 0 where
  pub id : Contains ids s.id
  pub member : s.member < length ids

placed-of : (whole : List ℕ) (slot first : ℕ) (ids : List ℕ) → All (Contains whole) ids → first + length ids ≤ length whole → All (IsOf whole) (placed slot first ids)
placed-of whole slot first [] has le = All-nil (IsOf whole)
placed-of whole slot first (x ∷ ids) has le =
    All-cons (IsOf whole) (record { id = x; slot = slot; member = first }) (placed slot (first + 1) ids) (record { id = All-head (Contains whole) x ids has; member = omega (arith, le) })
    (placed-of whole slot (first + 1) ids (All-tail (Contains whole) x ids has) (omega (arith, le)))

slots-of : (ids slots : List ℕ) → All (IsOf ids) (flat_map (λ slot. placed slot 0 ids) slots)
slots-of ids [] = All-nil (IsOf ids)
slots-of ids (slot ∷ slots) = All-append (IsOf ids) (placed slot 0 ids) (flat_map (λ slot. placed slot 0 ids) slots) (placed-of ids slot 0 ids (All-contains_itself ids) (omega arith)) (slots-of ids slots)

-- all spots are
pub spots_known : (ids : List ℕ) (slots : ℕ) → All (IsOf ids) (spots_of ids slots)
spots_known ids slots = slots-of ids (range_with_len 0 slots)

-- what is made of a list is made of what stands before an element, of it, and of what stands behind
pub around_map : {A B : Type 0} (f : A → B) (xs : List A) (k : ℕ) (d : A) → k < length xs → map f xs ≡ map f (take k xs) ++ f (get_or xs k d) ∷ map f (drop (k + 1) xs)
around_map {A} f xs k d lt =
    ap (map f) (sym (take-append-drop (k + 1) xs) ∙ ap (λ (l : List A). l ++ drop (k + 1) xs) (take_more xs k d lt) ∙ append_assoc (take k xs) (get_or xs k d ∷ []) (drop (k + 1) xs))
    ∙ map-append f (take k xs) (get_or xs k d ∷ drop (k + 1) xs)

-- ... and of one element more
pub more_map : {A B : Type 0} (f : A → B) (xs : List A) (k : ℕ) (d : A) → k < length xs → map f (take (k + 1) xs) ≡ map f (take k xs) ++ f (get_or xs k d) ∷ []
more_map f xs k d lt = ap (map f) (take_more xs k d lt) ∙ map-append f (take k xs) (get_or xs k d ∷ [])

-- a package of a spot is among those of all packages
pub id_known : (members : List ℕ) (ids : List PackageId) (spots : List Declared) (slots k : ℕ) → All (λ (id : PackageId). Contains members id.index) ids → map spot_view spots ≡ spots_of (map place_at ids) slots → k < length spots → Contains members (get_or spots k no_spot).id.index
id_known members ids spots slots k all is lt =
    let views = subst (All (IsOf (map place_at ids))) (sym is) (spots_known (map place_at ids) slots) in
    let here = subst (IsOf (map place_at ids)) (get_or-map spot_view spots k no_spot (spot_view no_spot) lt) (views k (spot_view no_spot) (let e = length-map spots spot_view in omega (arith, e, lt))) in
    All-contains (Contains members) (map place_at ids) (get_or spots k no_spot).id.index (All-map (Contains members) place_at ids all) here.id
