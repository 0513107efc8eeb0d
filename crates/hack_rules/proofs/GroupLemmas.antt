-- One more text, and the feature made of it.
use Rattle.std.proofs.Common.{◌≡◌, ◌∙◌, ◌&&◌, refl, ap, sym, subst, Some, ℕ, List, [], ◌∷◌, ◌++◌, map, String, string_bytes, string_eq}
use Rattle.std.specs.Cmp.Lexicographic.{pointwise}
use Rattle.std.specs.List.{AllZip, filter_map, find}
use Rattle.std.specs.Option.{is_none}
use Rattle.std.specs.Str.{bytes_eq}
use Rattle.std.proofs.lemmas.List.{map-append}
use Rattle.std.proofs.lemmas.List.Elements.{filter_map-append}
use Rattle.hack_features.specs.declared.feature.Feature.{Feature}
use Rattle.hack_features.specs.declared.feature.Feature.TheVariants.{Normal, Group, Path}
use Rattle.hack_features.specs.Feature.{IsGroup, group_of}
use Rattle.hack_base.specs.Names.{names_of}
use Rattle.hack_base.specs.Lists.{group_names}
use Rattle.hack_rules.specs.CliGroups.{AreGroupsOf, AreLifts}
use Rattle.hack_rules.specs.Internal.{AreReadAs, lift_in}
use Rattle.hack_rules.specs.CliLists.{Lift, lift_of, same_names}

-- one more pair of items for which R holds
pub AllZip-more : {A B : Type 0} (R : A → B → Type 0) (xs : List A) (ys : List B) (x : A) (y : B) → AllZip R xs ys → R x y → AllZip R (xs ++ x ∷ []) (ys ++ y ∷ [])
AllZip-more R [] [] x y h r = (r, tt)
AllZip-more R [] (b ∷ bs) x y h r = absurd h
AllZip-more R (a ∷ others) [] x y h r = absurd h
AllZip-more R (a ∷ others) (b ∷ bs) x y h r = (h.0, AllZip-more R others bs x y h.1 r)

IsGroup-names : (names : List (List ℕ)) (feature : Feature) → IsGroup names feature → group_of feature ≡ names
IsGroup-names names (Normal name) h = absurd h
IsGroup-names names (Group name list) h = h.1
IsGroup-names names (Path name slash) h = absurd h

-- the names of the groups that are made of texts
pub groups-names : (texts : List (List ℕ)) (features : List Feature) → AreGroupsOf texts features → map group_of features ≡ map group_names texts
groups-names [] [] h = refl
groups-names [] (f ∷ fs) h = absurd h
groups-names (t ∷ ts) [] h = absurd h
groups-names (t ∷ ts) (f ∷ fs) h = ap (λ x. x ∷ map group_of fs) (IsGroup-names (group_names t) f h.0) ∙ ap (λ xs. group_names t ∷ xs) (groups-names ts fs h.1)

-- comparing names is the same as comparing texts
pub same-names : {Y : Type 0} (xs ys : List (String Y)) → pointwise string_eq xs ys ≡ same_names (names_of xs) (names_of ys)
same-names [] [] = refl
same-names [] (y ∷ ys) = refl
same-names (x ∷ xs) [] = refl
same-names (x ∷ xs) (y ∷ ys) = ap (λ b. bytes_eq (string_bytes x) (string_bytes y) && b) (same-names xs ys)

-- one more text, which lifts a group
taken-lifts : {Y : Type 0} (texts : List (String Y)) (text : String Y) → filter_map lift_of (map string_bytes (texts ++ text ∷ [])) ≡ filter_map lift_of (map string_bytes texts) ++ filter_map lift_of (string_bytes text ∷ [])
taken-lifts texts text = ap (filter_map lift_of) (map-append string_bytes texts (text ∷ [])) ∙ filter_map-append lift_of (map string_bytes texts) (string_bytes text ∷ [])

one-lift : (text : List ℕ) (lift : Lift) → lift_of text ≡ Some lift → filter_map lift_of (text ∷ []) ≡ lift ∷ []
one-lift text lift e = rw e refl

pub lift-some : {Y : Type 0} (texts : List (String Y)) (pairs : List (String Y × Feature)) (text : String Y) (lift : Lift) (pair : String Y × Feature) → AreLifts (filter_map lift_of (map string_bytes texts)) pairs → lift_of (string_bytes text) ≡ Some lift → string_bytes pair.0 ≡ lift.owner → IsGroup lift.group pair.1 → AreLifts (filter_map lift_of (map string_bytes (texts ++ text ∷ []))) (pairs ++ pair ∷ [])
lift-some texts pairs text lift pair h e k l = subst (λ (ls : List Lift). AreLifts ls (pairs ++ pair ∷ [])) (sym (taken-lifts texts text ∙ ap (λ ls. filter_map lift_of (map string_bytes texts) ++ ls) (one-lift (string_bytes text) lift e))) (AllZip-more _ (filter_map lift_of (map string_bytes texts)) pairs lift pair h (k, l))

-- the lift that a text is read as, by the parts that were made of it
pub lift-read : {Y : Type 0} (text owner : List ℕ) (group : List (List ℕ)) (pair : String Y × Feature) → lift_of text ≡ Some (record { owner = owner; group = group }) → string_bytes pair.0 ≡ owner → IsGroup group pair.1 → lift_of text ≡ Some (lift_in pair)
lift-read text owner group pair h k l = h ∙ ap (λ o. Some (record { owner = o; group = group })) (sym k) ∙ ap (λ g. Some (record { owner = string_bytes pair.0; group = g })) (sym (IsGroup-names group pair.1 l))

pub read-more : {Y Z : Type 0} (texts : List (String Y)) (pairs : List (String Z × Feature)) (text : String Y) (pair : String Z × Feature) → AreReadAs texts pairs → lift_of (string_bytes text) ≡ Some (lift_in pair) → AreReadAs (texts ++ text ∷ []) (pairs ++ pair ∷ [])
read-more texts pairs text pair h e =
    map-append (λ t. lift_of (string_bytes t)) texts (text ∷ [])
    ∙ ap (λ xs. xs ++ lift_of (string_bytes text) ∷ []) h
    ∙ ap (λ x. map (λ p. Some (lift_in p)) pairs ++ x ∷ []) e
    ∙ sym (map-append (λ p. Some (lift_in p)) pairs (pair ∷ []))

-- a text that lifts a group is not the first that fails
pub lift-passes : {Y : Type 0} (text : String Y) (rest : List (String Y)) (lift : Lift) → lift_of (string_bytes text) ≡ Some lift → find (λ t. is_none (lift_of t)) (map string_bytes (text ∷ rest)) ≡ find (λ t. is_none (lift_of t)) (map string_bytes rest)
lift-passes text rest lift e = rw e refl
