-- Names of features, one more at a time.
use Rattle.std.proofs.Common.{◌≡◌, ℕ, ◌+◌, ◌<◌, String, Global, string_bytes, List, [], ◌∷◌, ◌++◌, length, get_or, take, map, ap, sym, ◌∙◌, append-nil, append_assoc, None, Some}
use Rattle.std.specs.Prelude.{slice_get}
use Rattle.std.specs.List.{filter_map}
use Rattle.std.proofs.lemmas.List.{take_more, map-append, length-map, get_or-map}
use Rattle.std.proofs.lemmas.List.Elements.{filter_map-append}
use Rattle.hack_base.specs.Names.{Name, names_of}
use Rattle.hack_features.specs.declared.feature.Feature.{Feature}
use Rattle.hack_features.specs.Feature.{name_of}
use Rattle.hack_sets.specs.Sets.{items_at}
use Rattle.hack_base.proofs.Steps.{filter_map-found, filter_map-missed, seen-next}

module _ (names : List Name) (before xs : List ℕ) (i : ℕ) (lt : i < length xs) where
  more : items_at names (before ++ take (i + 1) xs) ≡ items_at names (before ++ take i xs) ++ filter_map (slice_get names) (get_or xs i 0 ∷ [])
  more =
      ap (λ l. items_at names (before ++ l)) (take_more xs i 0 lt)
      ∙ ap (items_at names) (sym (append_assoc before (take i xs) (get_or xs i 0 ∷ [])))
      ∙ filter_map-append (slice_get names) (before ++ take i xs) (get_or xs i 0 ∷ [])

  -- the names after one more position, if there is a candidate at it
  pub chosen-found : (name : Name) → slice_get names (get_or xs i 0) ≡ Some name → items_at names (before ++ take i xs) ++ name ∷ [] ≡ items_at names (before ++ take (i + 1) xs)
  chosen-found name found = sym (more ∙ ap (λ l. items_at names (before ++ take i xs) ++ l) (filter_map-found (slice_get names) (get_or xs i 0) name found))

  -- the same, if there is none
  pub chosen-missed : slice_get names (get_or xs i 0) ≡ None → items_at names (before ++ take i xs) ≡ items_at names (before ++ take (i + 1) xs)
  chosen-missed none =
      sym (more ∙ ap (λ l. items_at names (before ++ take i xs) ++ l) (filter_map-missed (slice_get names) (get_or xs i 0) none)
      ∙ append-nil (items_at names (before ++ take i xs)))

-- the texts made of names, after one more feature
pub names-next : (f : Name → Name) (fs : List Feature) (k : ℕ) (feature : Feature) (texts new : List (String Global)) (text : String Global) → k < length fs → feature ≡ get_or fs k feature
    → new ≡ texts ++ text ∷ [] → string_bytes text ≡ f (name_of feature) → names_of texts ≡ take k (map f (map name_of fs)) → names_of new ≡ take (k + 1) (map f (map name_of fs))
names-next f fs k feature texts new text lt is pushed bytes before =
    ap names_of pushed ∙ map-append string_bytes texts (text ∷ [])
    ∙ ap (λ l. l ++ string_bytes text ∷ []) before
    ∙ ap (λ b. take k (map f (map name_of fs)) ++ b ∷ []) bytes
    ∙ sym (seen-next f (map name_of fs) k (name_of feature) (rw (length-map fs name_of) lt) (ap name_of is ∙ sym (get_or-map name_of fs k feature (name_of feature) lt)))
